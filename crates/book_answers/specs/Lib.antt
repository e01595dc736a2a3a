pub mod Answers
pub mod Posts
