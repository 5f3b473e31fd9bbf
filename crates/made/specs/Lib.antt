pub mod Made
pub mod Dids
pub mod Asked
pub mod Done
pub mod First
pub mod Firsts
