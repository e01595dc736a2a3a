use Rattle.stock_model.proofs.HeadCodes.{code_of-heads}
use Rattle.stock_model.proofs.masters.heads_are_those_of_records.Goals as goal

pub returns : goal.returns
returns c = code_of-heads
