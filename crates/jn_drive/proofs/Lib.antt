pub mod Judging
pub mod Pieces
pub mod Reading
pub mod Running
pub mod ShownAgain
pub mod Wording
mod Agreeing
mod BigRuns
mod Building
mod Meanings
mod Means
mod Coming
mod Ending
mod OneReply
mod Ranges
mod Saving
