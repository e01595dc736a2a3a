-- The rows were shown one after another, and all of them were read.
use Rattle.std.proofs.Common.{◌≡◌, sym, subst, ap, ◌∙◌, arith, rules}
use Rattle.sqlite_value.specs.declared.value.Value.TheVariants.{Int}
use Rattle.sqlite_value.specs.Order.{Row, column}
use Rattle.sqlite.specs.State.{HasCleanDisk}
use Rattle.sqlite.specs.Held.{state}
use Rattle.sqlite_tables.specs.Rows.{AreRecordsOf, AreWorthsOf}
use Rattle.sqlite_tables.proofs.RowsRead.{records_read, worths_read, tables_same}
use Rattle.sqlite_tables.proofs.reading.read.Goals as goal

pub returns-clause-read : goal.returns-clause-read
returns-clause-read g c clean t stands =
    let worths_clean : HasCleanDisk (state g.S.Store c.worth_rows.new.tx.conn.now) = omega (arith, c.head_row.ensures.survives.clean, clean) in
    let records_clean : HasCleanDisk (state g.S.Store c.record_rows.new.tx.conn.now) = omega (arith, c.worth_rows.ensures.survives.clean, worths_clean) in
    let one = c.in_ok-records.ensures.shown records_clean t stands in
    let two = c.in_ok-worths.ensures.shown worths_clean t one.1 in
    let three = c.in_ok-row.ensures.shown clean t two.1 in
    let head = c.in_ok-head.ensures in
    let version_is : Int c.in_ok-head.head.version ≡ Int t.version = sym head.0 ∙ ap (λ (r : Row). column r 0) three.0 in
    let covered_is : Int c.in_ok-head.head.covered ≡ Int t.covered = sym head.1 ∙ ap (λ (r : Row). column r 1) three.0 in
    let version : c.in_ok-head.head.version ≡ t.version = cc in
    let covered : c.in_ok-head.head.covered ≡ t.covered = cc in
    tables_same _ t
    (let is = version in search rules)
    (records_read _ c.in_ok-records_of.field-0 t.records one.0 (subst (λ rows. AreRecordsOf rows c.in_ok-records_of.field-0) c.as_slice.ensures.value c.in_ok-records_of.ensures))
    (let is = covered in search rules)
    (worths_read _ c.in_ok-worths_of.field-0 t.worths two.0 (subst (λ rows. AreWorthsOf rows c.in_ok-worths_of.field-0) c.as_slice-2.ensures.value c.in_ok-worths_of.ensures.all))
