use Rattle.repost_laws.proofs.WholeSteps.{rows-clean, rows-changed}
use Rattle.repost_laws.proofs.whole_laws.a_clean_build_leads_on.Goals as goal

pub returns-clause-replay : goal.returns-clause-replay
returns-clause-replay c = rows-clean

pub returns-clause-changed : goal.returns-clause-changed
returns-clause-changed c = rows-changed
