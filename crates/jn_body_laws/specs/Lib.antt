pub mod BodyForms
