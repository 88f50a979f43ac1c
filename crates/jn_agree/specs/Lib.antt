pub mod Naming
pub mod Matches
pub mod Rows
pub mod Follows
pub mod Agrees
pub mod Places
pub mod Spans
