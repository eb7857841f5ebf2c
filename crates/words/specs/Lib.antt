pub mod Words
pub mod Running
