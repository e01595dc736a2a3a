pub mod Texts
pub mod Audits
