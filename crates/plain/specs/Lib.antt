pub mod Asks
pub mod Counted
pub mod Stores
pub mod Acts
pub mod Reads
pub mod Puts
