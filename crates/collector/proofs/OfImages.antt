pub mod KeptArrays
pub mod KnownArrays
pub mod WantedImages
