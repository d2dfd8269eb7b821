pub mod Request
pub mod Ending
pub mod Top
pub mod Laws
