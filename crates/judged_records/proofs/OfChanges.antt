pub mod PartialWrites
pub mod Losses
pub mod NotedChanges
pub mod Copies
pub mod Pins
pub mod Mentions
pub mod WholeDerived
