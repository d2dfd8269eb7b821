pub mod Beginning
pub mod Mounting
pub mod Powering
pub mod Telling
