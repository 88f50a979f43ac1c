pub mod LawsOfSources
