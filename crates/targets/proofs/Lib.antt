pub mod Parted
pub mod Slashes
pub mod Turns
pub mod Off
