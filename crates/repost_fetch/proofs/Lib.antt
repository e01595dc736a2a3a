pub mod FetchSteps
pub mod ChargeSteps
pub mod TakenRecords
pub mod NoCancels
