-- Each voucher leaves fewer movements, and none is published.
use Rattle.std.proofs.Common.{◌≡◌}
use Rattle.stock_model.specs.History.{covered}
use Rattle.parts_bench.proofs.late_posting.post_all.Given as goal

abbrev pub decreases-loop-left : goal.decreases-loop-left
decreases-loop-left l = l.left

abbrev pub invariant-loop-left : goal.invariant-loop-left
invariant-loop-left l = covered l.book.history ≡ 0
