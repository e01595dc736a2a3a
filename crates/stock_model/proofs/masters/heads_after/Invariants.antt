-- The heads so far and those of what is left are all that the later records make.
use Rattle.std.proofs.Common.{◌≡◌, ◌+◌, ◌++◌, drop}
use Rattle.stock_model.proofs.HeadCodes.{heads_from}
use Rattle.stock_model.proofs.masters.heads_after.Given as goal

abbrev pub invariant-loop-i : goal.invariant-loop-i
invariant-loop-i l = l.found ++ heads_from (l.after + l.i + 1) (drop l.i l.rest) ≡ heads_from (l.after + 1) l.rest
