use Rattle.repost_laws.proofs.Spreading.{spread-before}
use Rattle.repost_laws.proofs.build_laws.values_spread_forward.Goals as goal

pub returns : goal.returns
returns c = spread-before
