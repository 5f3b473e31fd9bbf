pub mod Firsts
pub mod Streams
pub mod Heads
pub mod Written
