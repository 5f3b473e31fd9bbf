pub mod Readings
pub mod Splitting
pub mod Placing
pub mod Resolving
pub mod Nexts
