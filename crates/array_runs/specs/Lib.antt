pub mod Run
pub mod Promises
pub mod Breaks
pub mod Unbroken
