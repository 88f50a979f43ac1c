pub mod Images
pub mod Lines
