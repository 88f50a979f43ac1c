pub mod Cont
pub mod Facts
pub mod LawsOfNodes
pub mod LawsOfLaidNodes
pub mod LawsOfEntries
