pub mod OwnLinks
pub mod SharedLinks
pub mod Outside
