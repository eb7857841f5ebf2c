pub mod Breadth
pub mod Distances
pub mod Turns
pub mod Reading
pub mod Lists
pub mod Wanted
