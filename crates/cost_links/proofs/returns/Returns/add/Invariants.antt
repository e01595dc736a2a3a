-- The movements so far were added.
use Rattle.std.proofs.Common.{◌≡◌, ◌++◌, take, filter}
use Rattle.stock_nums.specs.declared.cause.Target.{Target}
use Rattle.stock_model.specs.Returns.{returns_of}
use Rattle.cost_links.specs.Tables.{entries_to}
use Rattle.cost_links.proofs.returns.Returns.add.Given as goal

abbrev pub invariant-loop-index : goal.invariant-loop-index
invariant-loop-index l = (line : Target) → entries_to l.self line ≡ entries_to l.fn.self line ++ filter (returns_of line) (take l.index l.entries)
