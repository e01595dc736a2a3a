use Rattle.stock_laws.proofs.PostingLine.{IsInPostingOrder-posting_line, IsPermutation-posting_line, posting_line-unique}
use Rattle.stock_laws.proofs.order_laws.posting_line_is_the_order.Goals as goal

pub returns-clause-in_order : goal.returns-clause-in_order
returns-clause-in_order c = IsInPostingOrder-posting_line

pub returns-clause-complete : goal.returns-clause-complete
returns-clause-complete c = IsPermutation-posting_line

pub returns-clause-only : goal.returns-clause-only
returns-clause-only c = posting_line-unique
