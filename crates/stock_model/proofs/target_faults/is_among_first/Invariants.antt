-- The rest of the first targets has the same line where all have.
use Rattle.std.proofs.Common.{◌≡◌, take, drop}
use Rattle.std.specs.List.{list_any}
use Rattle.stock_model.specs.Faults.{name_one_line}
use Rattle.stock_model.specs.VoucherLines.{targets_of}
use Rattle.stock_model.proofs.target_faults.is_among_first.Given as goal

abbrev pub invariant-loop-index : goal.invariant-loop-index
invariant-loop-index l =
    list_any (name_one_line l.named) (drop l.index (take l.count (targets_of l.what))) ≡ list_any (name_one_line l.named) (take l.count (targets_of l.what))
