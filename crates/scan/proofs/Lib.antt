pub mod ScanLaws
pub mod Runs
pub mod Flat
pub mod PartLaws
pub mod Walks
