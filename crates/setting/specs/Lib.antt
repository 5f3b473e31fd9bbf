pub mod Stands
pub mod Orders
