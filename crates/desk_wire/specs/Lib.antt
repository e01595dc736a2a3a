pub mod Framings
pub mod Heads
pub mod Responses
pub mod Rules
pub mod Spans
pub mod Streams
pub mod Waiting
