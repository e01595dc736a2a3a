pub mod Visiting
pub mod WayTurns
pub mod AtDesk
