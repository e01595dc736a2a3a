pub mod Responses
pub mod Responding
pub mod Answering
pub mod Exchanging
pub mod Served
pub mod Writing
