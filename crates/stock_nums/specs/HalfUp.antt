-- The moving average (IAS 2.27), rounded half up to whole minor units.
use Rattle.std.specs.Prelude.{ℕ, ◌+◌, ◌*◌, ◌/◌, ◌==◌, if◌then◌else◌}

-- what q of Q units cost that are worth V together. The last units take all that is left
abbrev pub half_up : ℕ → ℕ → ℕ → ℕ
half_up V q Q = if q == Q then V else (2 * V * q + Q) / (2 * Q)
