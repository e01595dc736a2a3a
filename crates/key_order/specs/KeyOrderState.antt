-- Changes in key order as contracts see them.
use Rattle.std.specs.Prelude.{ℕ, List}
use Rattle.key_order.specs.declared.change.Change.{Change}

-- the changes, and how many more fit without memory
pub record KeyOrderState : Type 0 where
  pub changes : List Change
  pub spare : ℕ
