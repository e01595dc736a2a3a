pub mod ShelfLaw
pub mod FileOrder
