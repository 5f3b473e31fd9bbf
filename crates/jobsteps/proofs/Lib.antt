pub mod Cutting
pub mod Heads
pub mod Between
pub mod Bodies
pub mod Within
