-- The copies so far, and the heads that are left, are those before and all heads.
use Rattle.std.proofs.Common.{◌≡◌, ◌++◌, drop}
use Rattle.generation_book.proofs.covered_heads.push_copies.Given as goal

abbrev pub invariant-loop-head : goal.invariant-loop-head
invariant-loop-head l = l.all ++ drop l.head-index l.heads ≡ l.initial.all ++ l.heads
