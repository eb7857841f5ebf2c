pub mod Breadth
pub mod FollowedEntries
pub mod Steps
pub mod Turns
pub mod Filling
pub mod Naming
pub mod Answers
