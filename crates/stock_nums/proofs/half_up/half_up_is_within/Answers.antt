use Rattle.stock_nums.proofs.HalfUp.{half_up-all, half_up-le}
use Rattle.stock_nums.proofs.half_up.half_up_is_within.Goals as goal

pub returns-clause-last : goal.returns-clause-last
returns-clause-last c = half_up-all

pub returns-clause-within : goal.returns-clause-within
returns-clause-within c = half_up-le
