pub mod ConfigLemmas
mod Writes
