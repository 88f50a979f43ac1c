pub mod Held
pub mod Turning
