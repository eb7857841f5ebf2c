pub mod Kept
pub mod Canonical
pub mod Answering
pub mod Chained
pub mod Renumbered
pub mod Shut
pub mod Examples
