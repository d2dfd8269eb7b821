mod Common
pub mod Accepting
pub mod UnbrokenCalls
