pub mod Decimal
pub mod Parsing
pub mod Texts
