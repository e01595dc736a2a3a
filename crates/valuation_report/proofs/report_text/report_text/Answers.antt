-- What was selected can be shown, and the ledger keeps its stock.
use Rattle.valuation_report.proofs.report_text.report_text.Goals as goal

pub text_of-requires : goal.text_of-requires
text_of-requires c = c.all_can_be_shown.ensures c.args.query.now c.args.selected.now c.requires

pub returns-clause-keeps : goal.returns-clause-keeps
returns-clause-keeps c = c.the_ledger_keeps_the_stock.ensures c.args.query.now c.args.selected.now c.requires

pub returns-in_err-text_of-clause-keeps : goal.returns-in_err-text_of-clause-keeps
returns-in_err-text_of-clause-keeps c = c.the_ledger_keeps_the_stock.ensures c.args.query.now c.args.selected.now c.requires
