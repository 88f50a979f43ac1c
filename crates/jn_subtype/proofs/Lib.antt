pub mod EndShapes
pub mod Newest
pub mod Addings
pub mod ClimbForms
pub mod SpreadForms
pub mod EnterForms
pub mod TurnForms
mod Reaching
