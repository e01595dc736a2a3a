pub mod CountKeys
pub mod Rows
pub mod Kinds
pub mod RowFaults
pub mod Runs
pub mod SheetVouchers
pub mod Sheets
pub mod Reading
