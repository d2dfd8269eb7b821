pub mod Causes
pub mod Desk
pub mod Disk
pub mod InMemory
pub mod Kept
pub mod Noted
pub mod System
