pub mod Gains
pub mod Isolates
pub mod Values
