pub mod Bytes
pub mod Changes
pub mod Found
pub mod Losing
pub mod Telling
