pub mod Instance
pub mod Seen
pub mod Textual
pub mod Off
