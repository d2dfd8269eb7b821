mod Common
pub mod OfTransactions
