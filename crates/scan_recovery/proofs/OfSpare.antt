pub mod RemovableBlocks
pub mod HeldPlaces
