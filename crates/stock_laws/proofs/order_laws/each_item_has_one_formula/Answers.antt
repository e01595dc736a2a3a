use Rattle.stock_laws.proofs.Formulas.{posting_line-formula}
use Rattle.stock_laws.proofs.order_laws.each_item_has_one_formula.Goals as goal

pub returns : goal.returns
returns c = posting_line-formula
