pub mod Walks
pub mod Report
pub mod Newest
pub mod Lines
pub mod Examples
