pub mod RoundSteps
pub mod Closing
pub mod CycleOrder
pub mod Cycles
pub mod WholeCycles
