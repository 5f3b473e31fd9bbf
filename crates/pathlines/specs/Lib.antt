pub mod Lines
pub mod Lost
