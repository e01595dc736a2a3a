pub mod InSteps
pub mod Repeating
pub mod SameQueries
