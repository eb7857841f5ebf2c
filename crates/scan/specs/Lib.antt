pub mod Parts
pub mod Scan
