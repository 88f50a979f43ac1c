pub mod LawsOfPlaces
pub mod Contexts
pub mod LawsOfContexts
