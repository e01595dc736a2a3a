-- What is kept for lines of vouchers, and for items in warehouses.
use Rattle.std.specs.Prelude.{ℕ, List, [], Option, Some, None, unwrap_or, unsigned_abs}
use Rattle.std.specs.BTreeMap.{get}
use Rattle.std.specs.Option.{option_map}
use Rattle.std.specs.Vec.{vec_items}
use Rattle.std.specs.declared.cmp.Ordering.{Ordering}
use Rattle.stock_nums.specs.FirstIn.{Layer}
use Rattle.stock_nums.specs.LineSums.{target_cmp}
use Rattle.stock_nums.specs.contracts.entry.KeyOrd.TheImpl as key_order
use Rattle.stock_nums.specs.declared.cause.Target.{Target}
use Rattle.stock_nums.specs.declared.entry.Entry.{Entry}
use Rattle.stock_nums.specs.declared.entry.Key.{Key}
use Rattle.cost_formulas.specs.Lots.{Lot}
use Rattle.cost_formulas.specs.declared.average.Average.{Average}
use Rattle.cost_links.specs.declared.averages.Averages.{Averages}
use Rattle.cost_links.specs.declared.queues.Queues.{Queues}
use Rattle.cost_links.specs.declared.returns.Returns.{Returns}

-- the order of items in warehouses
abbrev pub key_cmp : Key → Key → Ordering
key_cmp = (key_order.ghosts).cmp

-- units of an item in a warehouse, and what they are worth
pub record Held : Type 0 where
  pub units : ℕ
  pub value : ℕ

abbrev pub held_by : Option Average → Held
held_by None = record { units = 0; value = 0 }
held_by (Some average) = record { units = average.qty.0; value = unsigned_abs average.value.0 }

-- what is held of an item in a warehouse at the moving average
abbrev pub held_of : Averages → Key → Held
held_of averages key = held_by (get key_cmp averages.by_key key)

-- what is held of it first in, first out
abbrev pub layers_of : Queues → Key → List (Layer Lot)
layers_of queues key = unwrap_or (get key_cmp queues.by_key key) []

-- the movements that return units of a line
abbrev pub entries_to : Returns → Target → List Entry
entries_to returns line = unwrap_or (option_map vec_items (get target_cmp returns.by_line line)) []
