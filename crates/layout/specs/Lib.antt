pub mod Response
pub mod Reading
