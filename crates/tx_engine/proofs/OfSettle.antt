pub mod SettleExits
pub mod Settlements
pub mod SettledLists
pub mod NextNoted
pub mod NextSet
