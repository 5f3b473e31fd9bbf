pub mod Firsts
pub mod Turns
