pub mod ArrayState
pub mod Submit
pub mod Read
pub mod Step
pub mod Batches
pub mod BatchExamples
pub mod Collect
pub mod UnbrokenCalls
