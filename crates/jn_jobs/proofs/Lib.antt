pub mod Words
pub mod Rows
pub mod Walks
pub mod Parsed
pub mod Numbers
