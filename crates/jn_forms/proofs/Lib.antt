pub mod NormalForms
