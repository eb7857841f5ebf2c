pub mod Gathered
pub mod Computed
pub mod Told
