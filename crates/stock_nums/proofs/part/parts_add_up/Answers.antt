use Rattle.stock_nums.proofs.PartLemmas.{part-split}
use Rattle.stock_nums.proofs.part.parts_add_up.Goals as goal

pub returns-clause-split : goal.returns-clause-split
returns-clause-split c = λ T b q r W some within. part-split T b q r W some
