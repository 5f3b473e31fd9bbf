pub mod Roles
pub mod Loops
pub mod Keys
