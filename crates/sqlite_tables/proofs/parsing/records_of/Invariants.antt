-- The records so far, and those of the rows that are left, are those of all rows.
use Rattle.std.proofs.Common.{◌≡◌, ◌++◌, drop, map}
use Rattle.sqlite_tables.specs.Rows.{record_row, record_columns}
use Rattle.sqlite_tables.proofs.parsing.records_of.Given as goal

abbrev pub invariant-loop-row : goal.invariant-loop-row
invariant-loop-row l = map record_row l.records.items ++ map record_columns (drop l.row-index l.rows) ≡ map record_columns l.rows
