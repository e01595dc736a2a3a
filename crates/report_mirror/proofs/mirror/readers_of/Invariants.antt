-- So many readers as counted were made, and none has read anything.
use Rattle.std.proofs.Common.{◌≡◌, [], length}
use Rattle.std.specs.Prelude.{All}
use Rattle.report_mirror.proofs.mirror.readers_of.Given as goal

abbrev pub invariant-loop : goal.invariant-loop
invariant-loop l = (length l.readers.items ≡ l.counter) × All (λ reader. reader ≡ []) l.readers.items
