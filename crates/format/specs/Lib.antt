pub mod Args
pub mod Laws
pub mod Source
