use Rattle.repost_laws.proofs.RangePieces.{ranges-meet}
use Rattle.repost_laws.proofs.index_laws.ranges_tell_what_takes_from_what.Goals as goal

pub returns : goal.returns
returns c = ranges-meet
