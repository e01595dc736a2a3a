pub mod Pairs
pub mod SpotOrder
pub mod Putting
pub mod Neighbours
pub mod Images
pub mod Calls
