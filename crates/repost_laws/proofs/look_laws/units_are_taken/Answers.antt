use Rattle.repost_laws.proofs.LooksStarted.{goes-out, sources-out}
use Rattle.repost_laws.proofs.look_laws.units_are_taken.Goals as goal

pub returns-clause-causes : goal.returns-clause-causes
returns-clause-causes c = goes-out

pub returns-clause-sources : goal.returns-clause-sources
returns-clause-sources c = sources-out
