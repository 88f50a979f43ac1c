pub mod RowLaws
pub mod Stores
pub mod Makes
