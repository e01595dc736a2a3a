pub mod Faults
pub mod Register
pub mod State
