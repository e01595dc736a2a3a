pub mod Neighbours
pub mod UnitsAhead
pub mod UnitNumbers
pub mod OwnPlaces
pub mod PutLines
pub mod LeftLines
pub mod PutMoments
pub mod LayerParts
