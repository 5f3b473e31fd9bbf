pub mod Runs
pub mod Pieces
pub mod Names
pub mod Writing
