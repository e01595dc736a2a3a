pub mod Kept
pub mod State
pub mod OwnPlaces
pub mod Stretches
pub mod ChangedLines
