pub mod OpenChanges
pub mod OpenList
pub mod OpenPages
pub mod Owners
pub mod PageMoves
