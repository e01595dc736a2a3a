-- Units by their numbers as contracts see them.
use Rattle.std.specs.Prelude.{ℕ, List}
use Rattle.key_order.specs.declared.change.Change.{Change}

-- the changes of movements that enter and of those that leave, each with its units as leaving, and how many more of each fit
-- without memory
pub record RangesState : Type 0 where
  pub entering : List Change
  pub leaving : List Change
  pub entering_spare : ℕ
  pub leaving_spare : ℕ
