pub mod Dispatch
pub mod Going
pub mod Lows
pub mod Whole
