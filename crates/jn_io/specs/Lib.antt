pub mod Calls
pub mod Causes
pub mod FaultCounts
pub mod Told
pub mod MemFiles
pub mod MemStoreState
pub mod MemSinkState
