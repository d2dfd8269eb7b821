pub mod BreakingOff
pub mod BrokenCollections
pub mod CollectCalls
pub mod CollectedNotes
pub mod Collections
pub mod RoundCosts
pub mod Chains
