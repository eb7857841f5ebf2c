pub mod Parts
pub mod Links
pub mod Numbers
pub mod Named
pub mod Edges
pub mod Called
