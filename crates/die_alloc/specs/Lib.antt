pub mod BlocksState
pub mod NextSlot
pub mod Ranks
pub mod DieRanks
pub mod Blocks
pub mod Opening
