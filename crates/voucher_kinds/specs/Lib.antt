-- This crate cites the definitions of the crate of meaning, and says how the journal stands to its master.
pub mod Heads
pub mod ReturnedUnits
pub mod Journals
