pub mod AuditedRuns
pub mod AuditEnds
pub mod NoFloats
