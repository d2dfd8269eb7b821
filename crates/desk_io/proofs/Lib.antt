mod Answering
mod DeskFiles
mod Keeping
mod Notes
pub mod Resting
