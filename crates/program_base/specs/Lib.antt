pub mod Statuses
pub mod Refusals
pub mod Loading
pub mod Saying
