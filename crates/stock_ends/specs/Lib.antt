pub mod Damages
pub mod Statuses
pub mod Openings
