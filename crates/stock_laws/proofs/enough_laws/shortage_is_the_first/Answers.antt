use Rattle.stock_laws.proofs.Enough.{shortage-first}
use Rattle.stock_laws.proofs.enough_laws.shortage_is_the_first.Goals as goal

pub returns : goal.returns
returns c = shortage-first
