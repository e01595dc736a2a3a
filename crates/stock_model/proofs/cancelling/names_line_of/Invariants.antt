-- The targets that are left have a line of the record where all have.
use Rattle.std.proofs.Common.{◌≡◌, drop}
use Rattle.std.specs.List.{list_any}
use Rattle.stock_model.specs.Cancelling.{is_line_of}
use Rattle.stock_model.specs.VoucherLines.{targets_of}
use Rattle.stock_model.proofs.cancelling.names_line_of.Given as goal

abbrev pub invariant-loop-index : goal.invariant-loop-index
invariant-loop-index l = list_any (is_line_of l.number.0) (drop l.index (targets_of l.what)) ≡ list_any (is_line_of l.number.0) (targets_of l.what)
