pub mod State
pub mod Book
pub mod Refusals
pub mod Handed
pub mod Follows
pub mod ClosedRows
