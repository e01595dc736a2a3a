-- What the records so far charge.
use Rattle.std.proofs.Common.{◌≡◌, take, drop}
use Rattle.std.specs.List.{flat_map}
use Rattle.stock_model.specs.LandedCost.{record_charged}
use Rattle.cost_links.specs.Charged.{charge_pairs}
use Rattle.cost_links.proofs.charges.charges_from.Given as goal

abbrev pub invariant-loop-record : goal.invariant-loop-record
invariant-loop-record l = charge_pairs l.charges ≡ flat_map (record_charged l.records) (take l.record-index (drop l.from l.records))
