pub mod Posts
pub mod Vouchers
pub mod Steps
pub mod Runs
pub mod Filed
pub mod Imports
