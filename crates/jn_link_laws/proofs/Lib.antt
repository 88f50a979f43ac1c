pub mod Link
pub mod Agreed
pub mod TraceSteps
pub mod Traced
