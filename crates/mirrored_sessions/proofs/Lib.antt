pub mod StepLemmas
pub mod Going
pub mod Bodies
