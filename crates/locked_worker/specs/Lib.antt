pub mod LockedTurns
pub mod Stopped
pub mod GatedRuns
