pub mod Strategies
pub mod Bounds
pub mod Stored
pub mod Entered
pub mod Changed
pub mod Deeds
