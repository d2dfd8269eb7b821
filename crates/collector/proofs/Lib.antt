mod Common
pub mod OfCopies
pub mod OfErase
pub mod OfClean
pub mod OfSettle
pub mod OfCollect
pub mod OfRoom
pub mod OfRetire
pub mod OfImages
pub mod OfNotes
