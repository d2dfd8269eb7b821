pub mod WrittenPages
pub mod PinnedNames
pub mod StoreCalls
