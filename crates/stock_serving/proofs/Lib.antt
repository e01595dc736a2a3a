pub mod Later
pub mod Services
pub mod ServedRuns
