pub mod Ons
pub mod Glue
pub mod Lines
