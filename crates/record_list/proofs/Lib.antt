mod Common
pub mod OfFacts
pub mod OfWalks
pub mod OfChanges
pub mod OfLosses
pub mod OfCycles
