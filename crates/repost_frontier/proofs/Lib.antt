pub mod OnePasses
pub mod SlotPlaces
pub mod SlotOrder
pub mod SlotsLeft
pub mod FirstSuspect
pub mod Published
pub mod SlotReadings
