pub mod Sets
pub mod Tops
pub mod Retentions
pub mod Shifters
pub mod Others
