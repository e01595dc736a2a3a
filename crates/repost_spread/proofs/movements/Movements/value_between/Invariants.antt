-- The value so far and that of the units from here on are that of all.
use Rattle.std.proofs.Common.{◌≡◌, ℕ, ◌+◌, ◌-◌}
use Rattle.repost_frontier.specs.Readings.{found_of}
use Rattle.repost_index.specs.Layers.{worth_between}
use Rattle.repost_laws.specs.Valuations.{found_value}
use Rattle.repost_spread.specs.Movements.{slots_of}
use Rattle.repost_spread.proofs.movements.Movements.value_between.Given as goal

abbrev pub ghost-unit_in : goal.ghost-unit_in
ghost-unit_in g a = g.line

abbrev pub decreases-loop-unit : goal.decreases-loop-unit
decreases-loop-unit g l = l.until.0 - l.unit

abbrev pub invariant-loop-unit : goal.invariant-loop-unit
invariant-loop-unit g l =
    let worth = λ (n : ℕ). worth_between g.line l.key (found_value (found_of (slots_of l.self))) n l.until.0 in
    l.value + worth l.unit ≡ worth l.fn.from.0
