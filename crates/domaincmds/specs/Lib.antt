pub mod Domains
pub mod Supplies
