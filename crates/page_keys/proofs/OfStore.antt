pub mod StoreReads
pub mod Mentions
pub mod Turns
pub mod BrokenTurns
pub mod PutSteps
