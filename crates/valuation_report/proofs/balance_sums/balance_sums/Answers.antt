-- What was selected can be shown.
use Rattle.valuation_report.proofs.balance_sums.balance_sums.Goals as goal

pub sums_of-requires : goal.sums_of-requires
sums_of-requires c = c.all_can_be_shown.ensures c.args.query.now c.args.selected.now c.requires.selected
