pub mod Readings
pub mod Builds
pub mod Rows
