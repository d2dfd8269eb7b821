mod Common
pub mod RunLemmas
pub mod CommandReading
pub mod FileServing
pub mod DriveLemmas
pub mod Sound
pub mod Weakening
pub mod Works
pub mod TwoFiles
pub mod Parts
pub mod Findings
pub mod Copies
pub mod KeyEndings
pub mod MovedRecords
pub mod Retirements
