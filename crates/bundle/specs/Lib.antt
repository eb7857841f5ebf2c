pub mod Definitions
pub mod Expressions
pub mod Opened
pub mod View
pub mod TreeSets
pub mod Facts
