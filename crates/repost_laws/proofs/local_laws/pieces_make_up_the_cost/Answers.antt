use Rattle.repost_laws.proofs.FoundRows.{pieces-cost}
use Rattle.repost_laws.proofs.local_laws.pieces_make_up_the_cost.Goals as goal

pub returns : goal.returns
returns c = pieces-cost
