mod Common
pub mod OfScan
pub mod OfLaws
pub mod OfLinks
pub mod OfSpare
pub mod OfOpening
