pub mod Followed
pub mod Laws
pub mod Examples
