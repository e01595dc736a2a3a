use Rattle.stock_model.proofs.SeenLines.{line-same}
use Rattle.stock_model.proofs.line_views.return_line.Goals as goal

pub returns : goal.returns
returns c = rw c.return_target.ensures (line-same _ _ _ _ _ _ _ _)
