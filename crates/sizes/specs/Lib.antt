pub mod Paths
pub mod Scan
pub mod Tests
