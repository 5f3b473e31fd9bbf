pub mod Starred
pub mod Accepted
pub mod Numbers
pub mod Signals
