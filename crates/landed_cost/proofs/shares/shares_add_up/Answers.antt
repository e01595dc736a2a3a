use Rattle.stock_nums.proofs.SharesLemmas.{sum-shares}
use Rattle.landed_cost.proofs.shares.shares_add_up.Goals as goal

pub returns : goal.returns
returns c = λ total weights some. sum-shares total weights some
