pub mod Entries
pub mod Pieces
