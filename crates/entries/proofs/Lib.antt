pub mod Heads
pub mod Scans
pub mod Closes
pub mod Items
