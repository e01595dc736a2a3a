pub mod Added
pub mod Takings
