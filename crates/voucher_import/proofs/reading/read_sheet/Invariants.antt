-- The rows under the head are the rows so far, of which a voucher is open, and those that the reader has still to give.
use Rattle.std.proofs.Common.{◌≡◌, ◌<◌, ◌+◌, List, length}
use Rattle.csv.specs.Reading.{owned_rows_left, owned_rows_reader}
use Rattle.voucher_import.specs.Reading.{IsOpen}
use Rattle.voucher_import.specs.Rows.{Row, rows_of}
use Rattle.voucher_import.specs.Sheets.{HasRows}
use Rattle.voucher_import.proofs.TextRecords.{Gives}
use Rattle.voucher_import.proofs.reading.read_sheet.Given as goal

abbrev pub invariant-loop-row : goal.invariant-loop-row
invariant-loop-row l = (rows : List Row) × (rest : List Row) × HasRows (rows_of l.fn.bytes) rows × Gives (owned_rows_reader l.row-iterator) rest × (0 < owned_rows_left l.row-iterator)
    × IsOpen rows rest l.sheet × (l.sheet.before + length l.sheet.run.items + length rest ≡ length (rows_of l.fn.bytes))
