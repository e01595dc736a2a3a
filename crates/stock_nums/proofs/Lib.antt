pub mod FirstIn
pub mod HalfUp
pub mod MomentSpelling
pub mod MomentWriting
pub mod PartLemmas
pub mod PlaceOrder
pub mod LineQuantities
pub mod SharesLemmas
