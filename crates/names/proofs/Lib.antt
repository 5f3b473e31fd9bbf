pub mod Firsts
pub mod Streams
pub mod Sames
pub mod Parted
pub mod Written
pub mod Cuts
