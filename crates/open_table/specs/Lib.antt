pub mod OpenTransactionsState
pub mod OpenTransactions
pub mod PendingWrites
