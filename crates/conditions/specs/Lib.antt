pub mod Controls
pub mod Pieces
