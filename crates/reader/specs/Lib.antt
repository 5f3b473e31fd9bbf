pub mod Command
pub mod Load
pub mod File
pub mod Turn
pub mod Whole
pub mod Accepted
