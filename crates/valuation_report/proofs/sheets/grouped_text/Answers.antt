-- What is written is the report.
use Rattle.std.proofs.Common.{refl}
use Rattle.valuation_report.proofs.Reports.{reported}
use Rattle.valuation_report.proofs.sheets.grouped_text.Goals as goal

pub returns : goal.returns
returns c = reported c.args.query.now c.args.selected.now c.in_ok-text.ensures c.in_ok-push_groups.ensures c.in_ok-close.ensures refl
