-- The item found in what is left is the item found in all.
use Rattle.std.proofs.Common.{◌≡◌, ◌+◌, drop}
use Rattle.std.specs.List.{filter_map, enumerate_from}
use Rattle.stock_nums.specs.Heads.{item_in}
use Rattle.stock_model.specs.Masters.{item_with, item_numbered}
use Rattle.stock_model.proofs.masters.item_with.Given as goal

abbrev pub invariant-loop-i : goal.invariant-loop-i
invariant-loop-i l = item_in (filter_map item_numbered (enumerate_from (l.i + 1) (drop l.i l.records))) l.code ≡ item_with l.records l.code
