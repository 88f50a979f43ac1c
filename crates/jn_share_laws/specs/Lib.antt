pub mod LawsOfShare
