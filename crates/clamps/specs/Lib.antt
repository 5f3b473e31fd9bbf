pub mod Values
pub mod Laws
