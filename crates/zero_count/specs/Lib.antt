pub mod Zeros
pub mod Examples
