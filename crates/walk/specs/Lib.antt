-- Definitions, in document 01's words.
pub mod Limits
pub mod Walk
pub mod Reach
pub mod Examples
pub mod Chains
pub mod Relative
