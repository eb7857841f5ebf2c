pub mod Validating
