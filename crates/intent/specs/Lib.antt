pub mod Intent
pub mod Reads
