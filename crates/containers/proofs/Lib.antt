pub mod Keeping
pub mod Held
pub mod Before
pub mod Containing
