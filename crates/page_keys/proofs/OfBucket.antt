pub mod BucketChanges
pub mod EntryLists
pub mod Parts
pub mod Spelling
