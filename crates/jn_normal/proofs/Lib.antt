pub mod Ordered
pub mod Replaced
pub mod Replacing
pub mod Turning
pub mod Fitting
pub mod RowsFit
