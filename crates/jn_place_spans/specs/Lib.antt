pub mod LawsOfNodes
pub mod LawsOfExprs
pub mod LawsOfStmts
pub mod LawsOfBodies
pub mod LawsOfUntyped
pub mod LawsOfImages
