-- Definitions, in document 01's words.
pub mod Limits
pub mod Lists
pub mod Lookup
pub mod Search
pub mod Ports
pub mod Connections
pub mod Paths
pub mod Examples
-- Laws.
pub mod Laws
pub mod Losables
pub mod AcceptedNames
