use Rattle.stock_laws.proofs.PostingLine.{IsInPostingOrder-posting_line}
use Rattle.repost_laws.proofs.JournalFronts.{AreLegal-front, IsEnough-legal, HaveOneMethod-posting_line}
use Rattle.repost_laws.proofs.fetch_laws.a_legal_journal_can_be_built.Goals as goal

pub returns-clause-front : goal.returns-clause-front
returns-clause-front c = AreLegal-front

pub returns-clause-enough : goal.returns-clause-enough
returns-clause-enough c = IsEnough-legal

pub returns-clause-one_method : goal.returns-clause-one_method
returns-clause-one_method c = HaveOneMethod-posting_line

pub returns-clause-in_order : goal.returns-clause-in_order
returns-clause-in_order c = IsInPostingOrder-posting_line
