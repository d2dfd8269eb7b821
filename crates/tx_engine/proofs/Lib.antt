mod Common
pub mod OfDevice
pub mod OfSettle
pub mod OfStep
pub mod OfWrite
pub mod OfSubmit
pub mod OfAbort
pub mod OfCollect
pub mod OfMount
pub mod OfTables
pub mod OfLaws
pub mod OfStepAll
