pub mod Words
pub mod Texts
pub mod Asked
pub mod Seen
