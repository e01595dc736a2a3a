-- Fewer blocks are left.
use Rattle.std.proofs.Common.{length}
use Rattle.shared_list.proofs.blocks.+next_of.Given as goal

abbrev pub decreases-next_of : goal.decreases-next_of
decreases-next_of g l = length l.blocks.now
