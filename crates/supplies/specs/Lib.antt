pub mod Nets
pub mod Seen
