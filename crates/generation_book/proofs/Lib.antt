pub mod Books
pub mod OwnFaults
pub mod KeptBooks
pub mod Following
pub mod ClosedBooks
