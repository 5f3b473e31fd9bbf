pub mod Written
pub mod Piece
pub mod Stored
pub mod Put
pub mod Puts
pub mod Room
