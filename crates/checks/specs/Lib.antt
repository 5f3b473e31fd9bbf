pub mod Sorted
pub mod Soles
pub mod Seen
