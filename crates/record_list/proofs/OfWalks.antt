pub mod Follow
pub mod Returns
pub mod Rounds
