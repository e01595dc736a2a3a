pub mod Worths
pub mod Changed
pub mod Keeping
pub mod Memory
pub mod Calls
