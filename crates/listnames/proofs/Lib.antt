pub mod Values
pub mod Turns
