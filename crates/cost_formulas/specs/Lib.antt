pub mod Held
pub mod Lots
