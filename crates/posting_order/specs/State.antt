-- A timeline as contracts see it.
use Rattle.std.specs.Prelude.{ℕ, List}
use Rattle.stock_nums.specs.declared.entry.Entry.{Entry}

-- the movements in posting order, and how many more fit without memory
pub record TimelineState : Type 0 where
  pub entries : List Entry
  pub spare : ℕ
