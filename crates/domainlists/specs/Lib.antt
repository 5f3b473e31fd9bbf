pub mod Lists
pub mod Own
pub mod Seen
