pub mod Job
pub mod Lines
pub mod Parse
pub mod Examples
pub mod Forms
pub mod Sections
pub mod Scanned
pub mod Reads
