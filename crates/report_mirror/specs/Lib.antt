pub mod Generations
pub mod Mirrored
