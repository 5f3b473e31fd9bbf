pub mod Values
pub mod Dotted
pub mod Words
