-- An index of movements as contracts see it.
use Rattle.std.specs.Prelude.{ℕ, List}
use Rattle.stock_nums.specs.declared.moment.Moment.{Moment}
use Rattle.key_order.specs.declared.change.Change.{Change}

-- what movements change, by item and warehouse; the changes of those that enter and of those that leave, each with its units as
-- leaving; the moments of records by their numbers less 1; and how many more of each fit without memory
pub record IndexState : Type 0 where
  pub keys : List Change
  pub entering : List Change
  pub leaving : List Change
  pub moments : List Moment
  pub keys_spare : ℕ
  pub entering_spare : ℕ
  pub leaving_spare : ℕ
  pub dates_spare : ℕ
