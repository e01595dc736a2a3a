use Rattle.repost_laws.proofs.SinceChanges.{IsSince-start, IsSince-change, IsSince-turn}
use Rattle.repost_laws.proofs.publication_laws.what_was_valued_since_is_known.Goals as goal

pub returns-clause-start : goal.returns-clause-start
returns-clause-start c = IsSince-start

pub returns-clause-change : goal.returns-clause-change
returns-clause-change c = IsSince-change

pub returns-clause-turn : goal.returns-clause-turn
returns-clause-turn c = IsSince-turn
