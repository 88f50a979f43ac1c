pub mod Told
pub mod Places
pub mod Written
pub mod Params
pub mod Sides
