pub mod Shared
pub mod Validators
pub mod Writing
