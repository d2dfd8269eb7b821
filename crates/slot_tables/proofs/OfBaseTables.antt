pub mod Copying
pub mod Held
pub mod RefreshedAll
pub mod Refreshing
