pub mod Lists
pub mod Sharing
pub mod Taken
pub mod Noted
