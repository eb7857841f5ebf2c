pub mod ChainChecks
pub mod ElementChecks
pub mod ForwardChecks
