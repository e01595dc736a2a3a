-- The rest of the targets has a closed one where all have.
use Rattle.std.proofs.Common.{◌≡◌, drop}
use Rattle.std.specs.List.{list_any}
use Rattle.stock_model.specs.Faults.{was_closed}
use Rattle.stock_model.proofs.freezing.is_one_closed.Given as goal

abbrev pub invariant-loop-target : goal.invariant-loop-target
invariant-loop-target g l =
    list_any (was_closed (g.N.Names.journal l.names) l.until) (drop l.target-index l.targets) ≡ list_any (was_closed (g.N.Names.journal l.names) l.until) l.targets
