use Rattle.repost_laws.proofs.TurnCounts.{AreFew-start, AreFew-fetch, AreFew-turn}
use Rattle.repost_laws.proofs.turn_laws.turns_are_few.Goals as goal

pub returns-clause-start : goal.returns-clause-start
returns-clause-start c = AreFew-start

pub returns-clause-fetch : goal.returns-clause-fetch
returns-clause-fetch c = AreFew-fetch

pub returns-clause-turn : goal.returns-clause-turn
returns-clause-turn c = AreFew-turn
