pub mod Aborting
pub mod Removal
