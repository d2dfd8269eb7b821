pub mod EraseExits
pub mod ErasedBlocks
pub mod Emptying
pub mod Swap
pub mod VictimCalls
