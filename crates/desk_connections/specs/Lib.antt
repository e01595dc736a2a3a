pub mod Visits
pub mod Ways
pub mod Desks
