-- What sources and sinks say for the answers of the system.
use Rattle.std.specs.Prelude.{ℕ, nat_lt, if◌then◌else◌, Result, Ok, Err}
use Rattle.stock_io.specs.declared.failed.Failed.{Failed}

-- the one failure
abbrev pub failed : Failed
failed = record {}

-- a read: as many bytes as the system gave, or that it failed
abbrev pub taken_of : {E : Type 0} → Result ℕ E → Result ℕ Failed
taken_of (Ok n) = Ok n
taken_of (Err error) = Err failed

-- a write: as many bytes as the system took, few or all. A system that takes nothing failed
abbrev pub written_of : {E : Type 0} → Result ℕ E → Result ℕ Failed
written_of (Ok n) = if nat_lt 0 n then Ok n else Err failed
written_of (Err error) = Err failed
