pub mod Cursors
pub mod Steps
