pub mod Common
mod SlotLemmas
pub mod ImageLemmas
pub mod HeaderLemmas
pub mod SpellingLemmas
mod RefusalLemmas
pub mod InUseLemmas
mod BehindLemmas
