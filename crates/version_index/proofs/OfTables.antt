pub mod KeptNotes
