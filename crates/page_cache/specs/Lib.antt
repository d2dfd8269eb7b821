pub mod PageCacheState
pub mod Entries
pub mod PageCache
