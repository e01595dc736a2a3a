use Rattle.kept_tables.proofs.OpeningSteps.{AreStored-nil, AreStored-more, IsBadRecord-faulty}
use Rattle.kept_tables.proofs.table_laws.stored_records_are_opened_one_by_one.Goals as goal

pub returns-clause-none : goal.returns-clause-none
returns-clause-none c = AreStored-nil

pub returns-clause-more : goal.returns-clause-more
returns-clause-more c = AreStored-more

pub returns-clause-faulty : goal.returns-clause-faulty
returns-clause-faulty c = IsBadRecord-faulty
