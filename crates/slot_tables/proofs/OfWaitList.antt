pub mod Waiters
pub mod WaitingFor
pub mod Ranges
