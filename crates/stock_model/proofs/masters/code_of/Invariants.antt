use Rattle.std.proofs.Common.{◌≡◌, drop}
use Rattle.stock_model.specs.Masters.{code_of}
use Rattle.stock_model.proofs.masters.code_of.Given as goal

abbrev pub invariant-loop-head : goal.invariant-loop-head
invariant-loop-head l = code_of (drop l.head-index l.heads) l.number ≡ code_of l.heads l.number
