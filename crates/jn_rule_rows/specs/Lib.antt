pub mod OneMain
pub mod Rows
pub mod SharingRows
pub mod MoreRows
pub mod FamilyRows
pub mod WordRows
pub mod ManyRows
