pub mod Span
pub mod Stream
pub mod Area
pub mod Frame
pub mod Writes
pub mod Reach
pub mod Memory
