pub mod TablesOf
pub mod Differences
pub mod Openings
pub mod Kept
