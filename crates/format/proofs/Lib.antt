pub mod Scopes
pub mod Arguments
pub mod Letters
