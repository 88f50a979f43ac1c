pub mod Passes
pub mod Causes
pub mod Tails
pub mod Shared
