pub mod Numbers
pub mod Listed
pub mod Names
pub mod Ways
pub mod Modules
