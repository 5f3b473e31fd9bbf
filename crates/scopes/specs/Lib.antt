pub mod Stops
pub mod Target
pub mod Moves
pub mod States
