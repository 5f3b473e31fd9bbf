pub mod Words
pub mod Chosen
pub mod Stated
pub mod Puts
pub mod Switches
pub mod Stays
