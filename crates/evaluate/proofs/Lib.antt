pub mod Numbers
pub mod ValueLaws
