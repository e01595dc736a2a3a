use Rattle.stock_laws.proofs.SheetKeys.{keys_of-ascending, keys_of-of_rows, keys_of-complete, keys_of-only}
use Rattle.stock_laws.proofs.sheet_laws.keys_are_those_of_the_rows.Goals as goal

pub returns-clause-ascending : goal.returns-clause-ascending
returns-clause-ascending c = keys_of-ascending

pub returns-clause-of_rows : goal.returns-clause-of_rows
returns-clause-of_rows c = keys_of-of_rows

pub returns-clause-complete : goal.returns-clause-complete
returns-clause-complete c = keys_of-complete

pub returns-clause-only : goal.returns-clause-only
returns-clause-only c = keys_of-only
