pub mod Reporting
pub mod Drafts
