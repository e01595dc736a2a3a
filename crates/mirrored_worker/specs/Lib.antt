pub mod Looks
pub mod MirroredRuns
