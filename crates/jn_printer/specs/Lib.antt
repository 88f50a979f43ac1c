pub mod Pieces
pub mod ExprText
pub mod StmtText
pub mod DeclText
pub mod Examples
pub mod EscapeLaw
pub mod WayBack
pub mod OperandLaw
