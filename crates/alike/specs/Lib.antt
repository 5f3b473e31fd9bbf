pub mod Strategies
pub mod Shown
pub mod Numbers
pub mod Ruled
