pub mod Followed
