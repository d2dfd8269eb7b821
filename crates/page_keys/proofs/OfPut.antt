pub mod EntriesLeft
pub mod Existing
pub mod PageLists
pub mod PlacedChanges
pub mod PutGiven
pub mod PutWrites
pub mod NoneWritten
