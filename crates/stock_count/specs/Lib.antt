pub mod Held
pub mod Sides
pub mod Differences
pub mod Corrections
pub mod Plans
pub mod Posted
