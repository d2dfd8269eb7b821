pub mod Spelling
pub mod Rules
pub mod Header
pub mod States
pub mod InUse
