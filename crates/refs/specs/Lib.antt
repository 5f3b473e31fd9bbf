pub mod Text
pub mod Stream
pub mod Laws
pub mod Heads
