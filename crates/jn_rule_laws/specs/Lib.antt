pub mod LawsOfRules
pub mod LawsOfHeaders
pub mod LawsOfOneHeader
pub mod LawsOfMembers
pub mod LawsOfForms
pub mod Behind
