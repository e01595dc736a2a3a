-- The rest of the targets has the first one that repeats an earlier one.
use Rattle.std.proofs.Common.{◌≡◌, ◌+◌, [], take, drop}
use Rattle.stock_model.specs.Faults.{first_repeated}
use Rattle.stock_model.specs.VoucherLines.{targets_of}
use Rattle.stock_model.proofs.target_faults.first_repeated.Given as goal

abbrev pub invariant-loop-index : goal.invariant-loop-index
invariant-loop-index l =
    first_repeated (take l.index (targets_of l.what)) (l.index + 1) (drop l.index (targets_of l.what)) ≡ first_repeated [] 1 (targets_of l.what)
