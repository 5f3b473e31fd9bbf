pub mod WellFormed
pub mod Kept
pub mod Bodies
