pub mod Scopes
pub mod Ways
