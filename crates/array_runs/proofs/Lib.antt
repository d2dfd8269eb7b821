mod Common
pub mod Finishes
pub mod Cases
pub mod Taking
pub mod Apart
pub mod Each
pub mod Changes
pub mod Atomic
pub mod Closed
pub mod Unbroken
pub mod Quiet
pub mod Clinging
pub mod AbortLaws
