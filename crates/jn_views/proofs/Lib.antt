pub mod Targets
pub mod Passings
pub mod Holding
