pub mod Movements
pub mod Adding
pub mod Removing
pub mod Takes
pub mod Marks
pub mod Touches
pub mod Spreads
