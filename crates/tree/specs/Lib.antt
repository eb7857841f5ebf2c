pub mod Tree
pub mod Facts
