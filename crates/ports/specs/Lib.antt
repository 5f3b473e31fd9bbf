pub mod Headers
pub mod Bodies
pub mod Fresh
pub mod Cursors
pub mod Starts
