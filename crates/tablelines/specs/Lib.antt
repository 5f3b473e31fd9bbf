pub mod Tables
pub mod Seen
