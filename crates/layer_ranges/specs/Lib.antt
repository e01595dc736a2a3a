pub mod Layers
pub mod RangesState
pub mod Sides
