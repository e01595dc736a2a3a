use Rattle.stock_laws.proofs.LiveLines.{posting_line-longer}
use Rattle.stock_laws.proofs.order_laws.further_records.Goals as goal

pub returns : goal.returns
returns c = posting_line-longer
