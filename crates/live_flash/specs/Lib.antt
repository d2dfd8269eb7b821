pub mod Following
pub mod Losing
pub mod Flushes
pub mod LiveFlash
pub mod Loads
pub mod Waiting
