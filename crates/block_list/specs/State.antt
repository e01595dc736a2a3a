-- A list in blocks as contracts see it.
use Rattle.std.specs.Prelude.{ℕ, List}

-- the items, and how many more can be put in without memory
pub record ListState (T : Type 0) : Type 0 where
  pub items : List T
  pub spare : ℕ
