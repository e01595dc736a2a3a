-- What the rest changes, and what those so far did, is what all change. Each changes at most 10^9 units.
use Rattle.std.proofs.Common.{◌≡◌, ◌*◌, ◌≤◌, ◌+ℤ◌, unsigned_abs, drop}
use Rattle.key_order.specs.Changes.{changes_of, held_with}
use Rattle.quantity_check.proofs.changes.held_with.Given as goal

abbrev pub invariant-loop-entry : goal.invariant-loop-entry
invariant-loop-entry l = record {
  value : l.held +ℤ held_with (changes_of (drop l.entry-index l.entries)) l.key l.place ≡ held_with (changes_of l.entries) l.key l.place;
  bound : unsigned_abs l.held ≤ l.entry-index * 1_000_000_000;
}
