mod Common
pub mod Texts
pub mod Held
pub mod Leaving
pub mod Shown
pub mod Alike
pub mod SvgWalks
pub mod Tells
pub mod Told
pub mod WalkTells
pub mod SvgTells
pub mod PlaceTells
pub mod SelectionTells
pub mod OverviewTells
