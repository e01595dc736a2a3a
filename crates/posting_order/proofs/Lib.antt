pub mod Parting
pub mod Places
pub mod Neighbours
pub mod KeyLines
pub mod KeyQueries
