pub mod Spanned
pub mod Passed
pub mod Forms
pub mod Bodies
