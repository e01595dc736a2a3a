-- What a count of faults says. Counts are kept in 64 bits, and one that stands at its end stays there.
use Rattle.std.specs.Prelude.{ℕ, ◌+◌, ◌-◌, ◌^◌, ◌<◌, ◌≤◌, min}

-- the count rose, where it has not come to its end
abbrev pub Rose : ℕ → ℕ → Type 0
Rose before now = now < 2 ^ 64 - 1 → before < now

-- the count did not fall
abbrev pub NeverFalls : ℕ → ℕ → Type 0
NeverFalls before now = before ≤ now

-- the count after one more, which stays at its end
abbrev pub raised : ℕ → ℕ
raised count = min (count + 1) (2 ^ 64 - 1)
