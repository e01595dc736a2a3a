pub mod Publications
pub mod Turns
pub mod Published
pub mod Runs
pub mod Paces
pub mod Openings
