pub mod Counting
pub mod Generator
pub mod Kinds
pub mod Parts
pub mod Summary
pub mod Tally
pub mod Work
