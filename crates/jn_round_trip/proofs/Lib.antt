pub mod Bridge
pub mod TheReturn
