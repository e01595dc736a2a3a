-- What is still to be added.
use Rattle.std.proofs.Common.{◌≡◌, ◌++◌, drop}
use Rattle.repost_fetch.proofs.fetch.push_all.Given as goal

abbrev pub invariant-loop-entry : goal.invariant-loop-entry
invariant-loop-entry l = l.entries ++ drop l.entry-index l.new ≡ l.initial.entries ++ l.new
