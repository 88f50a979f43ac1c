pub mod LawsOfAgreement
pub mod Traces
pub mod LawsOfTraces
