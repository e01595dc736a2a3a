-- A total that is parted by weights, in whole minor units.
use Rattle.std.specs.Prelude.{ℕ, ◌+◌, List, [], ◌∷◌, sum}
use Rattle.stock_nums.specs.Part.{part}

-- the shares of a total by these weights, after some with this weight together, of all weights together
abbrev pub shares_after : ℕ → ℕ → ℕ → List ℕ → List ℕ
shares_after total before all [] = []
shares_after total before all (w ∷ ws) = part total before w all ∷ shares_after total (before + w) all ws

-- the shares of a total by these weights: parts that follow one another, so that they add up to the total
abbrev pub shares : ℕ → List ℕ → List ℕ
shares total ws = shares_after total 0 (sum ws) ws
