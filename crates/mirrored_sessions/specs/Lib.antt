pub mod Steps
pub mod Sessions
