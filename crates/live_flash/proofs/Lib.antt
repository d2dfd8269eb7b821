mod Common
pub mod Places
pub mod Turning
pub mod Losing
pub mod Following
pub mod Clearing
pub mod Calls
pub mod Runs
pub mod OfTold
pub mod Kept
pub mod Spelled
pub mod Leaving
mod Apart
mod Waiting
mod Once
mod Written
mod Counting
