pub mod Makers
pub mod Exchanges
pub mod Answers
pub mod Sentences
pub mod Sessions
pub mod Turns
