mod ResponseTexts
mod Streams
pub mod Steps
pub mod Ending
pub mod Refusals
mod FixedTexts
mod Over
pub mod Bodies
pub mod AtDesk
