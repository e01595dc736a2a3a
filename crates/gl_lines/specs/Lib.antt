pub mod Packed
pub mod StoreAccounts
pub mod Totals
