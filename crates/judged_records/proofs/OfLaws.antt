pub mod DerivedLaws
pub mod ImageLaws
pub mod ImageScans
pub mod Mirror
pub mod NotedImages
pub mod FirstRecord
pub mod SlotLosses
