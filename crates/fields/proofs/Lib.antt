pub mod ShapeLaws
pub mod Walking
pub mod Lookups
