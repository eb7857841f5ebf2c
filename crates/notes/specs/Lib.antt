pub mod Notes
pub mod Listing
pub mod Facts
pub mod Parts
