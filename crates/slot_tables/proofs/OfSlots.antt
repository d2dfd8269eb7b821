pub mod Leaving
pub mod SlotSetting
pub mod FirstSlots
pub mod GatheredSlots
