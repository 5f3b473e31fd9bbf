pub mod Words
pub mod States
