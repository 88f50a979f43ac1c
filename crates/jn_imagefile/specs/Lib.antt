pub mod Gives
pub mod Answers
pub mod Appends
