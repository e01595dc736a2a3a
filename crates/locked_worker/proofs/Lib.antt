pub mod FewTurns
pub mod GatedRuns
pub mod LockedHistories
pub mod LockedTurns
pub mod AfterStops
pub mod AfterTurns
pub mod Stops
