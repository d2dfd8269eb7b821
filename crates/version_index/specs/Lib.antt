pub mod Written
pub mod Tables
pub mod Going
pub mod Losing
pub mod Committing
pub mod Filling
pub mod Scanned
