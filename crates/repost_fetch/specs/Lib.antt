pub mod Cancels
pub mod Fetched
pub mod Changes
