pub mod Each
pub mod Fielding
