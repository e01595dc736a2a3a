-- Amounts of money as the code has them.
use Rattle.std.specs.Prelude.{ℕ, pos, List, map}
use Rattle.stock_nums.specs.declared.numbers.Minor.{Minor}

-- so many minor units
abbrev pub minor : ℕ → Minor
minor n = record { 0 = pos n }

abbrev pub minors : List ℕ → List Minor
minors ns = map minor ns
