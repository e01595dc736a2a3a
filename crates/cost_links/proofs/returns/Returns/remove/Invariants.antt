-- Those that stand where the movements so far do were taken out.
use Rattle.std.proofs.Common.{◌≡◌, take, filter, fold}
use Rattle.stock_nums.specs.declared.cause.Target.{Target}
use Rattle.stock_model.specs.Returns.{returns_of}
use Rattle.cost_links.specs.Sources.{left_by}
use Rattle.cost_links.specs.Tables.{entries_to}
use Rattle.cost_links.proofs.returns.Returns.remove.Given as goal

abbrev pub invariant-loop-entry : goal.invariant-loop-entry
invariant-loop-entry l = (line : Target) → entries_to l.self line ≡ fold left_by (entries_to l.fn.self line) (filter (returns_of line) (take l.entry-index l.entries))
