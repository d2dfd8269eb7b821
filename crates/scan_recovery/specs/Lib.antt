pub mod Opening
pub mod Reading
pub mod Recovered
pub mod Removable
pub mod Scans
pub mod Searches
pub mod Twins
