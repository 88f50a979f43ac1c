pub mod Housing
pub mod Places
