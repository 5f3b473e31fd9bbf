pub mod Orders
pub mod Owns
pub mod Soles
pub mod Inserts
pub mod Loops
