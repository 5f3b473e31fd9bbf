pub mod Adds
mod Rows
