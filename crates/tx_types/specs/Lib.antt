pub mod Batch
pub mod Config
pub mod Entries
pub mod Limits
pub mod Names
pub mod Slots
