use Rattle.stock_model.proofs.SeenLines.{line-same}
use Rattle.stock_model.proofs.line_views.transfer_line.Goals as goal

pub returns : goal.returns
returns c = line-same _ _ _ _ _ _ _ _
