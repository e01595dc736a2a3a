use Rattle.std.proofs.Common.{arith}
use Rattle.std.proofs.lemmas.Grind.{common_steps}
use Rattle.stock_model.specs.Entries.{all_entries}
use Rattle.stock_model.specs.PostingOrder.{posting_line}
use Rattle.stock_model.proofs.posting.posting_line.Goals as goal

pub returns : goal.returns
unfolding posting_line all_entries
returns c = grind (arith, common_steps)
