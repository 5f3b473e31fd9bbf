pub mod Count
pub mod Values
pub mod States
