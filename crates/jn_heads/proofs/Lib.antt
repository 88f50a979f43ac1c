pub mod Lists
pub mod Turns
pub mod Writing
pub mod Parameters
pub mod Pledging
