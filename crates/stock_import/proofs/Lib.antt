pub mod Posts
pub mod Runs
pub mod FiledImports
pub mod ImportEnds
