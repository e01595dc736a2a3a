use Rattle.std.proofs.Common.{refl}
use Rattle.repost_laws.proofs.TurnCounts.{AreAhead-turn}
use Rattle.repost_laws.proofs.turn_laws.turns_go_forward.Goals as goal

pub returns-clause-turn : goal.returns-clause-turn
returns-clause-turn c = AreAhead-turn

pub returns-clause-fetch : goal.returns-clause-fetch
returns-clause-fetch c = λ line suspects e held suspect. refl
