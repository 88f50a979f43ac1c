pub mod Parts
pub mod Jobs
pub mod Command
pub mod Views
pub mod Examples
