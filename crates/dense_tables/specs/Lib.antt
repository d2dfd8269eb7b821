pub mod LinkedLists
pub mod Links
pub mod Greatest
pub mod Levels
pub mod Reciprocals
