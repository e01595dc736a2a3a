pub mod AccountTotals
pub mod HeadAccounts
