pub mod Arithmetic
pub mod Literals
pub mod Operations
