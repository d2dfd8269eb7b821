pub mod Counting
pub mod Needing
pub mod Tallying
pub mod Counted
pub mod Keeping
pub mod Walks
pub mod Garbage
