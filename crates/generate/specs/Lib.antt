pub mod Generates
pub mod Pieces
pub mod Steps
