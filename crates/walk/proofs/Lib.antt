pub mod Listed
pub mod Chains
pub mod Retained
pub mod Three
pub mod Relative
pub mod Demand
