use Rattle.repost_laws.proofs.RangePieces.{sources-all}
use Rattle.repost_laws.proofs.index_laws.later_ones_give_nothing.Goals as goal

pub returns : goal.returns
returns c = sources-all
