-- The records so far are the first stored ones, and begin with those before.
use Rattle.std.proofs.Common.{◌≡◌, ◌≤◌, length, take}
use Rattle.kept_tables.specs.Openings.{AreStored}
use Rattle.generation_audit.proofs.reading.read_between.Given as goal

abbrev pub invariant-loop-index : goal.invariant-loop-index
invariant-loop-index l = record {
  stored : AreStored l.journal l.tables;
  at : length l.journal ≡ l.index;
  from : l.start ≤ l.index;
  front : take l.start l.journal ≡ l.fn.journal;
}
