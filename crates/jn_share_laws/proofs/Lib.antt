pub mod FieldsFound
pub mod Fitting
pub mod Limited
