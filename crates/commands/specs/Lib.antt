pub mod Reading
pub mod Stored
