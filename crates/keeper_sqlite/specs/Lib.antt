pub mod Files
pub mod Shelved
