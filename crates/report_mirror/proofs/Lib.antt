pub mod Growing
pub mod Selecting
pub mod Walking
