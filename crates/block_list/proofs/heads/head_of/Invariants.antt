-- So far the head tells of the items of the blocks that were passed.
use Rattle.std.proofs.Common.{◌*◌, ◌≤◌, take}
use Rattle.block_list.specs.Blocks.{joined}
use Rattle.block_list.specs.Heads.{IsHead}
use Rattle.block_list.specs.declared.sums.TheConstants.{MOST}
use Rattle.block_list.proofs.heads.head_of.Given as goal

abbrev pub invariant-loop-block : goal.invariant-loop-block
invariant-loop-block g l = IsHead g.W.Weigh.weight l.head (joined (take l.block-index l.group)) × (l.head.items ≤ MOST * l.block-index)
