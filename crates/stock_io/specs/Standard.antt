-- What contracts see of the standard streams.
use Rattle.std.specs.Prelude.{ℕ, ◌+◌}
use Rattle.stock_io.specs.Counts.{raised}

-- how many bytes an input gave, and how many faults there were
pub record Reading : Type 0 where
  pub taken : ℕ
  pub faults : ℕ

-- an input of which nothing was taken yet
abbrev pub new_reading : Reading
new_reading = record { taken = 0; faults = 0 }

-- the input after so many more bytes
abbrev pub after_bytes : Reading → ℕ → Reading
after_bytes reading n = record { taken = reading.taken + n; faults = reading.faults }

-- the input after one more fault
abbrev pub after_failed_read : Reading → Reading
after_failed_read reading = record { taken = reading.taken; faults = raised reading.faults }
