pub mod Fit
pub mod Both
pub mod Acts
pub mod Keeps
