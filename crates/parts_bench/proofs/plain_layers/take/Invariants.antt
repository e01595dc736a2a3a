use Rattle.std.proofs.Common.{length}
use Rattle.parts_bench.proofs.plain_layers.take.Given as goal

abbrev pub decreases-loop-layer : goal.decreases-loop-layer
decreases-loop-layer l = length l.layers.items
