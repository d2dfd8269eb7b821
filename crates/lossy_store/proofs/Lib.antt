mod Common
pub mod Places
pub mod Calls
pub mod Leaving
