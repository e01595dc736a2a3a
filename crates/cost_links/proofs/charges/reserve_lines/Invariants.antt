-- There is room for the lines so far, and no number changed.
use Rattle.std.proofs.Common.{◌≡◌, take}
use Rattle.stock_nums.specs.LineSums.{number_of}
use Rattle.stock_nums.specs.declared.cause.Target.{Target}
use Rattle.cost_links.specs.Charged.{HaveRoom}
use Rattle.cost_links.proofs.charges.reserve_lines.Given as goal

abbrev pub invariant-loop-charge : goal.invariant-loop-charge
invariant-loop-charge l = record {
  same : (line : Target) → number_of l.sums line ≡ number_of l.fn.sums line;
  room : HaveRoom l.sums (take l.charge-index l.charges);
}
