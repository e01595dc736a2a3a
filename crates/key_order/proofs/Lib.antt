pub mod SamePlaces
pub mod KeyOrdering
pub mod KeyPoints
pub mod KeyPlaces
pub mod KeyRuns
pub mod KeyLacks
