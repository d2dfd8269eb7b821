pub mod AdvanceExits
pub mod CostFacts
pub mod StepExits
pub mod StepWrites
pub mod NextRecord
pub mod NextThere
