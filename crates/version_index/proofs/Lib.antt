mod Common
pub mod OfOpening
pub mod OfCommit
pub mod OfProgram
pub mod OfGoing
pub mod OfLosses
pub mod OfChanges
pub mod OfReadings
pub mod OfTables
pub mod OfWritten
