pub mod OverTable
pub mod Corrupt
pub mod RowMem
pub mod Marked
