pub mod Endings
pub mod PictureEndings
