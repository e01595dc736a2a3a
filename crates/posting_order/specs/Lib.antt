pub mod State
pub mod Timelines
pub mod KeyLines
