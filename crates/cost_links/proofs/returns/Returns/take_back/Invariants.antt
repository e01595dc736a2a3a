-- What was taken away and what is there are all.
use Rattle.std.proofs.Common.{◌≡◌, ◌≤◌, ◌++◌, length, drop, filter}
use Rattle.stock_nums.specs.declared.cause.Target.{Target}
use Rattle.stock_model.specs.Returns.{returns_of}
use Rattle.cost_links.specs.Tables.{entries_to}
use Rattle.cost_links.proofs.returns.Returns.take_back.Given as goal

abbrev pub decreases-loop-left : goal.decreases-loop-left
decreases-loop-left l = l.left

abbrev pub invariant-loop-left : goal.invariant-loop-left
invariant-loop-left l = record {
  within : l.left ≤ length l.entries;
  all : (line : Target) → entries_to l.self line ++ filter (returns_of line) (drop l.left l.entries) ≡ entries_to l.fn.self line;
}
