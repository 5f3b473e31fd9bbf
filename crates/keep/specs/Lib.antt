pub mod Gains
pub mod Held
pub mod Covered
pub mod Turns
pub mod Warned
