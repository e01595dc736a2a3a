pub mod StepLists
mod Hearing
pub mod OfNumbers
mod Keeping
pub mod Since
pub mod OfPasses
pub mod Merging
pub mod OneEach
pub mod Listening
pub mod Visiting
pub mod Ending
