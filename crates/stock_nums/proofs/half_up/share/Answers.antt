use Rattle.std.proofs.Common.{arith}
use Rattle.stock_nums.proofs.HalfUp.{rounded-le}
use Rattle.stock_nums.proofs.half_up.share.Goals as goal

pub returns-clause-within : goal.returns-clause-within
returns-clause-within c = grind (arith, rounded-le)
