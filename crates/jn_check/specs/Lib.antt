pub mod Masks
pub mod States
pub mod Storing
pub mod Blocks
pub mod Bodies
pub mod Mains
pub mod Walk
pub mod Worlds
