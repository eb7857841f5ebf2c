pub mod Overlong
pub mod Answered
