pub mod Targets
pub mod Gone
