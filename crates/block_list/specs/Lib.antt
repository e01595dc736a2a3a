pub mod Sums
pub mod Blocks
pub mod State
pub mod Bounds
pub mod Changes
pub mod Heads
