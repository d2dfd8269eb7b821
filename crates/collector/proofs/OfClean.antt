pub mod BlankNotes
pub mod Cleanings
