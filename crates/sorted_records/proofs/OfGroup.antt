pub mod Groups
pub mod OneVersion
pub mod StraddlerGroups
pub mod Straddlers
pub mod Narrowed
pub mod Readings
pub mod BarePages
