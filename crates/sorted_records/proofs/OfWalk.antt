pub mod Lone
pub mod NameReturns
pub mod OneOrbit
pub mod Noted
pub mod Paths
pub mod Pigeonhole
pub mod WalkOrbits
