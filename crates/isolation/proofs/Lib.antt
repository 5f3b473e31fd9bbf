pub mod One
pub mod Rounds
