pub mod Runs
pub mod Laws
pub mod Reports
pub mod Steps
pub mod Frames
pub mod Numbers
