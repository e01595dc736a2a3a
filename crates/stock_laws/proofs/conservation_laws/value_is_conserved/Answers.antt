use Rattle.stock_laws.proofs.Conservation.{replay-conserved, replay-arrived, replay-came_back, replay-covered, replay-received}
use Rattle.stock_laws.proofs.conservation_laws.value_is_conserved.Goals as goal

pub returns-clause-conserved : goal.returns-clause-conserved
returns-clause-conserved c = replay-conserved

pub returns-clause-transfers : goal.returns-clause-transfers
returns-clause-transfers c = replay-arrived

pub returns-clause-sales : goal.returns-clause-sales
returns-clause-sales c = replay-came_back

pub returns-clause-stocks : goal.returns-clause-stocks
returns-clause-stocks c = replay-covered

pub returns-clause-prices : goal.returns-clause-prices
returns-clause-prices c = replay-received
