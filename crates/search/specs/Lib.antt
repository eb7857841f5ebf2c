pub mod Seeking
pub mod Work
