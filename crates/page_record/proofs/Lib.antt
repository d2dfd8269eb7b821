pub mod Parts
pub mod Spellings
mod Zeros
