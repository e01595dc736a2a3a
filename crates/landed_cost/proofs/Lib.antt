pub mod PartedShares
