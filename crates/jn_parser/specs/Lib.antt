pub mod Giving
pub mod Levels
pub mod Moved
pub mod Noted
pub mod Parsing
pub mod Wording
