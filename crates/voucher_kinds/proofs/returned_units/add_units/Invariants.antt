-- What was counted so far, and what the lines to come return, is all.
use Rattle.std.proofs.Common.{◌≡◌, ◌+◌, drop}
use Rattle.stock_nums.specs.LineSums.{number_of}
use Rattle.stock_nums.specs.declared.cause.Target.{Target}
use Rattle.stock_model.specs.Returns.{units_named}
use Rattle.stock_model.specs.VoucherLines.{lines_of}
use Rattle.voucher_kinds.specs.ReturnedUnits.{KeepsRoom}
use Rattle.voucher_kinds.proofs.returned_units.add_units.Given as goal

abbrev pub invariant-loop-index : goal.invariant-loop-index
invariant-loop-index l =
    ((target : Target) → number_of l.sums target + units_named (drop l.index (lines_of l.what)) target ≡ number_of l.initial.sums target + units_named (lines_of l.what) target)
    × KeepsRoom l.initial.sums l.sums
