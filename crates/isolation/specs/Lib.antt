pub mod Asked
pub mod Turns
pub mod Rules
pub mod Told
