-- The vouchers so far were taken.
use Rattle.std.proofs.Common.{◌++◌}
use Rattle.repost_worker.specs.Paces.{first_pace}
use Rattle.stock_batch.specs.Batches.{HasTaken}
use Rattle.load_script.specs.LoadScript.{opening_lines, voucher_lines}
use Rattle.stock_load.proofs.load.answer_script.Given as goal

abbrev pub invariant-loop-done : goal.invariant-loop-done
invariant-loop-done l = HasTaken first_pace l.batch (opening_lines l.count ++ voucher_lines l.done)
