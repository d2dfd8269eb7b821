pub mod CallLemmas
pub mod ComingLaws
pub mod ComingLemmas
pub mod FireLemmas
pub mod ImageLemmas
pub mod MoveLemmas
pub mod RetireLemmas
