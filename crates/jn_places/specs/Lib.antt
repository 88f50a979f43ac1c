pub mod ExprPlaces
pub mod StmtPlaces
