pub mod Flags
pub mod Listing
pub mod Turns
pub mod Written
