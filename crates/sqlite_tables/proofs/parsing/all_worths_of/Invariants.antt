-- The worths so far, and those of the rows that are left, are those of all rows.
use Rattle.std.proofs.Common.{◌≡◌, ◌++◌, drop, map}
use Rattle.sqlite_tables.specs.Rows.{worth_row, worth_columns}
use Rattle.sqlite_tables.proofs.parsing.all_worths_of.Given as goal

abbrev pub invariant-loop-row : goal.invariant-loop-row
invariant-loop-row l = map worth_row l.worths.items ++ map worth_columns (drop l.row-index l.rows) ≡ map worth_columns l.rows
