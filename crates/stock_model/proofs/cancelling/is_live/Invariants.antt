-- The later records that are left take the record back where all later ones do.
use Rattle.std.proofs.Common.{◌≡◌, drop}
use Rattle.std.specs.List.{list_any}
use Rattle.stock_model.specs.Entries.{takes_back}
use Rattle.stock_model.proofs.cancelling.is_live.Given as goal

abbrev pub invariant-loop-index : goal.invariant-loop-index
invariant-loop-index l = list_any (takes_back l.number.0) (drop l.index l.records) ≡ list_any (takes_back l.number.0) (drop l.number.0 l.records)
