pub mod DecimalLaws
pub mod Writing
pub mod Reading
pub mod Back
pub mod Examples
