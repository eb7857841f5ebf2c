pub mod Stored
pub mod Examples
