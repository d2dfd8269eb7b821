mod Common
pub mod OfBucket
pub mod OfPut
pub mod OfStore
pub mod OfServe
pub mod OfParse
