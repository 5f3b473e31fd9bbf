pub mod Prefixes
pub mod Fronts
pub mod Isolates
pub mod Walking
pub mod Tails
pub mod Chain
pub mod Bridged
