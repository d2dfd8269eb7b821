pub mod KeptRounds
pub mod Taking
pub mod Newest
