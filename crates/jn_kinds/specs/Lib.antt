pub mod Values
pub mod Careful
pub mod Kept
pub mod CarefulExample
