pub mod Does
pub mod Moved
