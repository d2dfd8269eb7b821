mod Common
pub mod Chunks
pub mod Images
pub mod Programmed
pub mod Filled
mod Kept
mod Loaded
mod Meeting
