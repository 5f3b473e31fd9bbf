pub mod Index
pub mod Stores
pub mod Looks
pub mod Rows
pub mod Modules
