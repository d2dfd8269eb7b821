pub mod Breaking
pub mod MemFlashState
pub mod Registers
pub mod Slots
pub mod SlotsInside
pub mod MemFlash
