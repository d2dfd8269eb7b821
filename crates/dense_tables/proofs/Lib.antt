mod Common
pub mod Linked
pub mod Chained
pub mod ChainCalls
pub mod Membership
pub mod GreatestNumbers
pub mod Tree
pub mod Filling
pub mod Descent
