-- The warehouse found in what is left is the warehouse found in all.
use Rattle.std.proofs.Common.{◌≡◌, ◌+◌, drop}
use Rattle.std.specs.List.{filter_map, enumerate_from}
use Rattle.stock_nums.specs.Heads.{store_in}
use Rattle.stock_model.specs.Masters.{store_with, store_numbered}
use Rattle.stock_model.proofs.masters.store_with.Given as goal

abbrev pub invariant-loop-i : goal.invariant-loop-i
invariant-loop-i l = store_in (filter_map store_numbered (enumerate_from (l.i + 1) (drop l.i l.records))) l.code ≡ store_with l.records l.code
