pub mod Numbering
pub mod UnitsMoved
