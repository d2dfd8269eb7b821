pub mod Entries
pub mod ListFlash
pub mod ListFlashState
pub mod Registers
