pub mod LooseBreaches
pub mod Chains
