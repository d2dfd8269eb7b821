pub mod ComparedSteps
pub mod ReadingSteps
