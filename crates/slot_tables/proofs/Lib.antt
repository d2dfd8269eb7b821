mod Common
pub mod OfRecords
pub mod OfLiveSlots
pub mod OfSlots
pub mod OfAnswerers
pub mod OfWaitList
pub mod OfBaseTables
mod Reaching
