use Rattle.stock_laws.proofs.Enough.{IsEnough-from_none, shortage-none}
use Rattle.stock_laws.proofs.enough_laws.no_shortage_is_enough.Goals as goal

pub returns-clause-enough : goal.returns-clause-enough
returns-clause-enough c = IsEnough-from_none

pub returns-clause-none : goal.returns-clause-none
returns-clause-none c = shortage-none
