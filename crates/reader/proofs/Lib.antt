pub mod Opens
pub mod AcceptedStarts
