use Rattle.repost_laws.proofs.Turns.{IsBuilt-turn}
use Rattle.repost_laws.proofs.build_laws.a_turn_keeps_what_is_built.Goals as goal

pub returns : goal.returns
returns c = IsBuilt-turn
