pub mod Effects
pub mod GoneWith
