-- The part of a total that falls to some of the units over which it is spread, in whole minor units.
use Rattle.std.specs.Prelude.{ℕ, ◌+◌, ◌-◌, ◌*◌, ◌/◌}

-- what q of W units have of the total T after b were taken: a difference of two shares of the whole, so that no
-- rounding is done twice
abbrev pub part : ℕ → ℕ → ℕ → ℕ → ℕ
part T b q W = T * (b + q) / W - T * b / W
