pub mod Peers
pub mod Slices
pub mod Writing
