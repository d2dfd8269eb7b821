pub mod ScanDecided
pub mod ScanNumbers
pub mod ScanSlots
pub mod ClosedBlocks
