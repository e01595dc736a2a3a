-- The running quantities as contracts see them.
use Rattle.std.specs.Prelude.{ℕ, List}
use Rattle.stock_nums.specs.declared.entry.Entry.{Entry}

-- the movements in posting order, of which none takes more than there is, and how many more fit without memory
pub record RunningState : Type 0 where
  pub entries : List Entry
  pub spare : ℕ
