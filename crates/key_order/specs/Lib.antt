pub mod Units
pub mod SamePlace
pub mod Changes
pub mod KeyOrderState
pub mod KeyOrders
pub mod KeyBounds
