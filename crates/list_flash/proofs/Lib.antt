pub mod Loaded
pub mod Moments
pub mod Operating
pub mod Shown
