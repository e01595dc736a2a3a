pub mod Exchanging
pub mod Kept
pub mod Served
