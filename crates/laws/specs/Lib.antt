pub mod Equations
pub mod Exchanges
pub mod Examples
pub mod Parts
