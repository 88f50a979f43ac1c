pub mod Sizes
pub mod LawsOfSizes
pub mod Operands
pub mod LawsOfOperands
pub mod Files
pub mod LawsOfFiles
