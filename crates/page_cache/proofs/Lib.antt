pub mod LookUps
pub mod Pages
