pub mod Named
pub mod Ports
pub mod Connections
