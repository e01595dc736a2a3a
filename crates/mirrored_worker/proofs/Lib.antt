pub mod Covering
pub mod Looking
pub mod MirroredRuns
pub mod Wholes
