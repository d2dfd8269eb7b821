pub mod KeptChanges
