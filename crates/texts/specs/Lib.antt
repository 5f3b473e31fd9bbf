-- Definitions, in document 01's words.
pub mod Limits
pub mod Literals
pub mod Scope
pub mod Setting
pub mod Supplies
pub mod Switches
pub mod Isolation
pub mod Domains
pub mod Texts
pub mod ForceLines
pub mod Examples
-- Laws.
pub mod Laws
pub mod Decimals
pub mod Sorted
pub mod Cuts
pub mod Blocks
