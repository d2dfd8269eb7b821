pub mod ByteLemmas
pub mod TornLemmas
pub mod WholeLemmas
mod ExampleLemmas
pub mod WordLemmas
