pub mod Listed
pub mod Numbering
pub mod Renumbering
pub mod Rising
