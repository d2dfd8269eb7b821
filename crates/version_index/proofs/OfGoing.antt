pub mod GoingBlocks
pub mod KeptGoing
