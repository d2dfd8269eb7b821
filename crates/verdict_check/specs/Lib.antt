pub mod Texts
pub mod Places
pub mod WalkEnds
pub mod Older
pub mod Straddlers
pub mod Expected
pub mod Meaning
