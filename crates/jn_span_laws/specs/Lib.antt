pub mod LawsOfSpans
pub mod LawsOfForms
