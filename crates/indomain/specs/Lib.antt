pub mod Asked
pub mod Own
pub mod Remarks
