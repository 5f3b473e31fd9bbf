pub mod Table
pub mod Making
