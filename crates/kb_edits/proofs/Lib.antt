pub mod Balances
pub mod DueInvoices
pub mod FoundSubscriptions
pub mod PayFaults
pub mod UnpaidNumbers
