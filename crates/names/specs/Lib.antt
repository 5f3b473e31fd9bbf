pub mod Scoped
pub mod Name
pub mod Stream
pub mod Parts
pub mod Frame
pub mod Laws
pub mod Examples
