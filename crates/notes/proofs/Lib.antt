pub mod Needs
pub mod ArrayLaws
pub mod Indices
pub mod Stays
pub mod Entries
pub mod Lists
