pub mod Submitted
pub mod Submitting
