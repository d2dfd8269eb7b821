mod Common
pub mod TextLemmas
pub mod PlaceLemmas
pub mod ChainLemmas
pub mod StraddlerLemmas
pub mod WalkEndLemmas
pub mod LineLemmas
pub mod DifferenceLemmas
pub mod PlainLemmas
pub mod ReportLemmas
mod OlderLemmas
