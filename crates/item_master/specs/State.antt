-- A master as contracts see it.
use Rattle.std.specs.Prelude.{List}
use Rattle.stock_nums.specs.Heads.{ItemHead, StoreHead}

-- the items and the warehouses, each in the order in which they were added
pub record MasterState : Type 0 where
  pub items : List ItemHead
  pub stores : List StoreHead
