pub mod Limits
pub mod Answer
pub mod Answers
pub mod Stage
pub mod Told
