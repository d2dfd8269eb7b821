pub mod FirstAnswers
pub mod OpenBlocks
pub mod NextSlots
pub mod Changes
pub mod RankedBlocks
pub mod Swaps
pub mod OpeningTables
