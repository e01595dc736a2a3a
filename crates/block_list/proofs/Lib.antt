pub mod Totals
pub mod Crossings
pub mod Joined
pub mod Pressure
pub mod Sides
pub mod Grouped
pub mod Changed
