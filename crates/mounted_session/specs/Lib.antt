pub mod Mounting
pub mod Devices
pub mod Sessions
pub mod Spending
