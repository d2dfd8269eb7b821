pub mod Files
pub mod Following
pub mod Losing
pub mod Clearing
pub mod FileFlashState
pub mod Opening
pub mod Loads
pub mod LossExamples
