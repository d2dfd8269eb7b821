pub mod Commands
pub mod Digits
pub mod Files
pub mod Lines
pub mod Numbers
pub mod Reading
pub mod Replies
pub mod Verbs
