pub mod Deeds
pub mod Dones
