pub mod Pools
pub mod Standing
