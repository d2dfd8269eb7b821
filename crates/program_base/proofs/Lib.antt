mod Fetching
pub mod Refusing
pub mod Spoken
mod Torn
