pub mod Forms
pub mod Looks
