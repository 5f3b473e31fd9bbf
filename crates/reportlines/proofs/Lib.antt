pub mod Head
pub mod Shifters
pub mod Warnings
