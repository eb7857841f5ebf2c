pub mod Queue
pub mod Work
pub mod Listing
