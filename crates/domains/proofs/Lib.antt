pub mod OneDomain
pub mod Turns
