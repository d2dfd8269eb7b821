mod Common
mod Bearing
mod Blocks
mod Causing
mod Claiming
mod Filling
mod Finishing
mod Heads
pub mod Leading
pub mod Learning
mod Linking
mod Making
mod Overwriting
mod Passing
mod Putting
mod Reading
mod Reasons
mod Refusing
mod Renewals
mod Replacements
mod Sighting
mod Tearing
mod Versions
mod Writing
