-- What goes with one more record, and what comes.
use Rattle.stock_laws.proofs.LiveEntries.{all_entries-step}
use Rattle.stock_laws.proofs.LiveLines.{posting_line-step}
use Rattle.stock_laws.proofs.order_laws.one_more_record.Goals as goal

pub returns-clause-line : goal.returns-clause-line
returns-clause-line c = posting_line-step

pub returns-clause-entries : goal.returns-clause-entries
returns-clause-entries c = all_entries-step
