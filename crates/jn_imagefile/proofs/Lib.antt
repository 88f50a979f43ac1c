pub mod Loops
pub mod Found
pub mod AsTheyAre
pub mod Appending
pub mod Passing
