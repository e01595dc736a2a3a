pub mod Logs
pub mod Steps
pub mod Sharing
pub mod Turns
pub mod Listening
pub mod Visits
