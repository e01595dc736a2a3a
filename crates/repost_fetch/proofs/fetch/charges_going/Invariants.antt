-- What the records so far charge, and those still to come, is what all charge that are taken back.
use Rattle.std.specs.Prelude.{◌≡◌, ◌+◌, ◌++◌, take, drop}
use Rattle.std.specs.List.{flat_map, enumerate_from}
use Rattle.cost_links.specs.Charged.{charge_pairs}
use Rattle.repost_fetch.specs.Fetched.{is_taken, taken_charge}
use Rattle.repost_fetch.proofs.fetch.charges_going.Given as goal

abbrev pub invariant-loop-index : goal.invariant-loop-index
invariant-loop-index l =
    charge_pairs l.charges
    ++ flat_map (taken_charge (is_taken (take l.after.0 l.journal) (drop l.after.0 l.journal)) l.journal) (enumerate_from (l.index + 1) (drop l.index l.journal))
    ≡ flat_map (taken_charge (is_taken (take l.after.0 l.journal) (drop l.after.0 l.journal)) l.journal) (enumerate_from 1 l.journal)
