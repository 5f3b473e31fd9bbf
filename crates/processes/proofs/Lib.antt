pub mod Led
pub mod Written
pub mod Texts
