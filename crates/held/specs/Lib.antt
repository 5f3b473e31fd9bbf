pub mod Grows
pub mod Held
pub mod Laws
