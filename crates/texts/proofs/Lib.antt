pub mod Sorted
pub mod Covers
pub mod OneLine
pub mod Cuts
pub mod Blocks
