-- The sums that are kept of each item in each warehouse.
use Rattle.std.specs.Prelude.{◌≡◌, List, unwrap_or}
use Rattle.std.specs.BTreeMap.{get}
use Rattle.stock_nums.specs.declared.entry.Key.{Key}
use Rattle.stock_nums.specs.declared.entry.Row.{Row}
use Rattle.cost_links.specs.Tables.{key_cmp}
use Rattle.generation_audit.specs.KeySums.{Sums, nothing, moved_of}
use Rattle.generation_audit.specs.declared.moved_by_key.MovedByKey.{MovedByKey}

-- what is kept of an item in a warehouse
abbrev pub moved_at : MovedByKey → Key → Sums
moved_at all key = unwrap_or (get key_cmp all.by_key key) nothing

-- of each item in each warehouse the sums over the rows are kept
abbrev pub AreMovedOf : List Row → MovedByKey → Type 0
AreMovedOf rows all = (key : Key) → moved_at all key ≡ moved_of rows key
