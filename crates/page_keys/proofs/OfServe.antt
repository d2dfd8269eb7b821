pub mod KeyAllLemmas
pub mod KeyBeginLemmas
pub mod KeyCallLemmas
pub mod KeyRunLemmas
pub mod KeyServeLemmas
pub mod UnopenedLemmas
