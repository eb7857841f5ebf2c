pub mod Shapes
pub mod Sought
