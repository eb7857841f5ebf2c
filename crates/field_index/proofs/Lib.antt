pub mod Constants
pub mod Leads
pub mod Noting
pub mod Walking
pub mod Shown
pub mod Widths
pub mod Structs
pub mod Order
