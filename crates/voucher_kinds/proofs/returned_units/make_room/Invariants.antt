-- No number changed, and the lines so far have room.
use Rattle.std.proofs.Common.{◌≡◌, ℕ, ◌<◌, true}
use Rattle.stock_nums.specs.LineSums.{number_of}
use Rattle.stock_nums.specs.declared.cause.Target.{Target}
use Rattle.stock_model.specs.VoucherLines.{lines_of}
use Rattle.voucher_kinds.specs.ReturnedUnits.{KeepsRoom, has_room_at}
use Rattle.voucher_kinds.proofs.returned_units.make_room.Given as goal

abbrev pub invariant-loop-index : goal.invariant-loop-index
invariant-loop-index l =
    ((target : Target) → number_of l.sums target ≡ number_of l.initial.sums target)
    × KeepsRoom l.initial.sums l.sums
    × ((index : ℕ) → index < l.index → has_room_at l.sums (lines_of l.what) index ≡ true)
