pub mod DevicesStand
pub mod GoingBlocks
pub mod LaterSlots
pub mod ReadySteps
