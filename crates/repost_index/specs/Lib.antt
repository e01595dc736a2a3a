pub mod IndexState
pub mod Indexed
pub mod Layers
pub mod Moments
