-- Each record is the text of its names.
use Rattle.std.proofs.Common.{sym, ap, ◌∙◌}
use Rattle.valuation_report.proofs.FixedTexts.{names_text, names_text-piece}
use Rattle.valuation_report.proofs.framing.column_names.Goals as goal

pub returns-in-Balance : goal.returns-in-Balance
returns-in-Balance c = sym (ap names_text c.in-Balance.is) ∙ names_text-piece c.args.sheet

pub returns-in-Layers : goal.returns-in-Layers
returns-in-Layers c = sym (ap names_text c.in-Layers.is) ∙ names_text-piece c.args.sheet

pub returns-in-Ledger : goal.returns-in-Ledger
returns-in-Ledger c = sym (ap names_text c.in-Ledger.is) ∙ names_text-piece c.args.sheet

pub returns-in-Accounts : goal.returns-in-Accounts
returns-in-Accounts c = sym (ap names_text c.in-Accounts.is) ∙ names_text-piece c.args.sheet

pub returns-in-Voucher : goal.returns-in-Voucher
returns-in-Voucher c = sym (ap names_text c.in-Voucher.is) ∙ names_text-piece c.args.sheet
