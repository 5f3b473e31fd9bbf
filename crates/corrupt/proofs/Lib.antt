pub mod OverTable
pub mod OwnNames
pub mod Rounds
pub mod Domain
pub mod Marking
