use Rattle.cost_links.proofs.TakenValues.{IsAverageOf-after}
use Rattle.cost_links.proofs.values.values_are_those_of_the_replay.Goals as goal

pub returns-clause-after : goal.returns-clause-after
returns-clause-after c = λ journal before e t from bounded covered average. IsAverageOf-after journal before e t from bounded covered average
