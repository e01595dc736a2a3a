use Rattle.kept_tables.proofs.KeptRecords.{tables_of-nil, Follows-next, tables_of-kept}
use Rattle.kept_tables.proofs.table_laws.a_record_is_appended.Goals as goal

pub returns-clause-new : goal.returns-clause-new
returns-clause-new c = tables_of-nil

pub returns-clause-follows : goal.returns-clause-follows
returns-clause-follows c = Follows-next

pub returns-clause-appended : goal.returns-clause-appended
returns-clause-appended c = tables_of-kept
