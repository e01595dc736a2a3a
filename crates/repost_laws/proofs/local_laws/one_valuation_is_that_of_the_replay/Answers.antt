use Rattle.repost_laws.proofs.LocalRows.{valuation-worth, valuation-after}
use Rattle.repost_laws.proofs.local_laws.one_valuation_is_that_of_the_replay.Goals as goal

pub returns-clause-worth : goal.returns-clause-worth
returns-clause-worth c = λ journal found past rest e legal. valuation-worth journal found past rest e

pub returns-clause-after : goal.returns-clause-after
returns-clause-after c = valuation-after
