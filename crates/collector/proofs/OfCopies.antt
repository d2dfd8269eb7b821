pub mod CopyExits
pub mod CopyLists
pub mod CopyNotes
pub mod CopyingBlocks
pub mod Homes
pub mod Sparing
