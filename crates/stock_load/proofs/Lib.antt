pub mod Loading
pub mod LoadEnds
