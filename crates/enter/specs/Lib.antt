pub mod Entered
