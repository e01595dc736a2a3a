-- What was added so far, and what the records to come charge, is all.
use Rattle.std.proofs.Common.{◌≡◌, ◌+◌, ◌++◌, drop}
use Rattle.std.specs.List.{flat_map, enumerate_from}
use Rattle.stock_model.specs.Entries.{is_live}
use Rattle.stock_model.specs.LandedCost.{charged_if, all_charged}
use Rattle.cost_links.specs.Charged.{charge_pairs}
use Rattle.generation_audit.proofs.charges.live_charges.Given as goal

abbrev pub invariant-loop-index : goal.invariant-loop-index
invariant-loop-index l =
    charge_pairs l.charges ++ flat_map (charged_if (is_live l.records) l.records) (enumerate_from (l.index + 1) (drop l.index l.records)) ≡ all_charged l.records
