use Rattle.kept_tables.proofs.FaultsOf.{no_fault_of}
use Rattle.kept_tables.proofs.Opened.{tables_of-opening, IsLegal-opening}
use Rattle.kept_tables.proofs.table_laws.tables_of_a_legal_history_open.Goals as goal

pub returns-clause-none : goal.returns-clause-none
returns-clause-none c = no_fault_of

pub returns-clause-opened : goal.returns-clause-opened
returns-clause-opened c = tables_of-opening

pub returns-clause-legal : goal.returns-clause-legal
returns-clause-legal c = IsLegal-opening
