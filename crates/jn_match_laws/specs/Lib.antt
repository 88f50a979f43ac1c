pub mod LawsOfMatching
