pub mod OneVerdict
pub mod SourceOrder
