pub mod ScanLaws
pub mod Flat
pub mod NamesLaws
pub mod PathLaws
pub mod PrimitiveLaws
pub mod ReferenceLaws
pub mod TestLaws
