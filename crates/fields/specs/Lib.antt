pub mod Limits
pub mod Fields
pub mod Meant
pub mod Splits
pub mod Names
pub mod Alls
