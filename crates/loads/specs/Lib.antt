pub mod Steps
pub mod Loads
pub mod Scoped
pub mod Behind
