pub mod Edges
pub mod Found
pub mod Index
