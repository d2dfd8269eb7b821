mod Common
pub mod CommandLemmas
mod DigitLemmas
pub mod EntryLemmas
pub mod FileLemmas
mod LaneLemmas
mod LeadingLemmas
pub mod LineLemmas
pub mod NumberLemmas
mod OneLine
pub mod PartLemmas
mod SearchLemmas
mod VerbLemmas
mod WordLemmas
