use Rattle.parts_bench.proofs.plain_layers.take_all.Given as goal

abbrev pub decreases-loop-held : goal.decreases-loop-held
decreases-loop-held l = l.held
