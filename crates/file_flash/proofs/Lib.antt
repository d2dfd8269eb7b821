mod Common
pub mod Told
pub mod Places
pub mod Writing
pub mod Losing
pub mod Clearing
pub mod Programming
pub mod Breaking
pub mod Keeping
pub mod Loading
pub mod Existing
