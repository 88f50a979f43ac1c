pub mod Source
pub mod Summary
pub mod Kept
pub mod Examples
