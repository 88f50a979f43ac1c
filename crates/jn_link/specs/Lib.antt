pub mod Codes
pub mod Groups
pub mod Joined
pub mod LawsOfCounts
pub mod Start
pub mod Whole
