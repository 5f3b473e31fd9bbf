-- Laws.
pub mod Accepted
pub mod Exact
pub mod Limited
