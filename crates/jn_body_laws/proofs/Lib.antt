pub mod ListedForms
pub mod SpelledCalls
pub mod CallsAside
pub mod Formed
