pub mod Paths
pub mod NumberWords
pub mod ServeWords
pub mod Words
pub mod Commands
