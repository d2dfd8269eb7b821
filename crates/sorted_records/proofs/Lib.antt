mod Common
pub mod OfSort
pub mod OfWalk
pub mod OfGroup
pub mod OfRecords
pub mod OfCount
