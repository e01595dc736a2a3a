-- What contracts see of an inbox.
use Rattle.std.specs.Prelude.{ℕ, Option, List, [], ◌++◌, take, drop}
use Rattle.std.specs.Io.KnownBytes.{prepend_known}

-- the bytes that came and were not passed on yet, and how many more may be taken
pub record Waiting : Type 0 where
  pub bytes : List ℕ
  pub spare : ℕ

-- no byte came yet
abbrev pub nothing_waits : ℕ → Waiting
nothing_waits limit = record { bytes = []; spare = limit }

-- so many bytes were passed on
abbrev pub after_passing : Waiting → ℕ → Waiting
after_passing waits count = record { bytes = drop count waits.bytes; spare = waits.spare }

-- what is ahead of an inbox whose source has these bytes left, where that is told: the bytes that wait, and
-- then those
abbrev pub ahead : Waiting → Option (List ℕ) → Option (List ℕ)
ahead waits left = prepend_known waits.bytes left

-- the part of it that may be heard: the bytes that wait, and then as many of the source as may be taken
abbrev pub in_reach : Waiting → List ℕ → List ℕ
in_reach waits left = waits.bytes ++ take waits.spare left
