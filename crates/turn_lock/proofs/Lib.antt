pub mod Lists
pub mod Turning
pub mod Giving
pub mod Keeps
pub mod Opening
pub mod Splitting
pub mod Joining
pub mod Closing
