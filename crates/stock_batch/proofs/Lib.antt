pub mod KeeperCalls
pub mod Runs
pub mod PacedRuns
pub mod Parts
pub mod Batches
pub mod Ends
pub mod FiledRuns
pub mod WorkLines
