pub mod Entry
pub mod Together
pub mod Raw
pub mod View
pub mod Loops
pub mod Frame
pub mod Examples
