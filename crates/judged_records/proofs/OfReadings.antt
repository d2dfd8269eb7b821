pub mod Going
pub mod GarbageReadings
pub mod NumberedReadings
pub mod Readings
pub mod LowestSlots
pub mod Firsts
