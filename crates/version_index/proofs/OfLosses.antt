pub mod KeptLosses
