mod Common
pub mod WalkLemmas
pub mod WalkLengths
pub mod LineLemmas
pub mod PageLemmas
mod NewestLemmas
