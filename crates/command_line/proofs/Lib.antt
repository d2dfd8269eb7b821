pub mod ArrayRuns
mod DiskEndings
pub mod Endings
pub mod OneEnding
pub mod OneFinding
pub mod OneKeyEnding
pub mod Saving
