pub mod Slots
pub mod FrontierState
pub mod Readings
