mod Common
pub mod OfCommit
pub mod OfChanges
pub mod OfReadings
pub mod OfNotes
pub mod OfLaws
