-- What holds of the movements that are kept.
use Rattle.std.specs.Prelude.{List}
use Rattle.stock_nums.specs.declared.entry.Entry.{Entry}
use Rattle.stock_model.specs.Enough.{IsEnough}
use Rattle.stock_model.specs.InOrder.{IsInPostingOrder}

-- the movements stand in posting order, and none takes more than there is
pub record AreKept (es : List Entry) : Type 0 where
  pub in_order : IsInPostingOrder es
  pub enough : IsEnough es
