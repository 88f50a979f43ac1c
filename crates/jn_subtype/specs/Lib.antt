pub mod Binds
pub mod Ends
pub mod Newest
pub mod Older
pub mod Judges
pub mod Turns
