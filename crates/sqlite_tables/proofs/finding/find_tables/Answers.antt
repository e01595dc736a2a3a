-- The rows that were shown are those of tables.
use Rattle.std.proofs.Common.{◌≡◌, [], map, refl, sym, ap, ◌∙◌, subst, arith, rules}
use Rattle.sqlite.specs.Effect.{Database, Answers}
use Rattle.sqlite.specs.State.{HasCleanDisk}
use Rattle.sqlite.specs.Held.{state}
use Rattle.sqlite.proofs.Callers.{reads_as}
use Rattle.stock_keeper.specs.declared.tables.Tables.{Tables}
use Rattle.sqlite_tables.specs.Finding.{IsOneHead}
use Rattle.sqlite_tables.specs.Rows.{AreRecordsOf, AreSortedOf}
use Rattle.sqlite_tables.specs.Standing.{StandsFor}
use Rattle.sqlite_tables.specs.Texts as texts
use Rattle.sqlite_tables.specs.Whole.{whole}
use Rattle.sqlite_tables.proofs.FoundLaw.{record_of, found_stands}
use Rattle.sqlite_tables.proofs.RowsRead.{records_read, tables_same}
use Rattle.sqlite_tables.proofs.TextLaws.{alone, whole_head_query, scan_is, scan_plain, whole_head_is, whole_head_plain}
use Rattle.sqlite_tables.proofs.TurnLemmas.{turned_then}
use Rattle.sqlite_tables.proofs.finding.find_tables.Goals as goal

stands_as : (db : Database) (copy t : Tables) → StandsFor db t → copy ≡ t → StandsFor db copy
stands_as db copy t stands same = subst (StandsFor db) (sym same) stands

pub returns-clause-found : goal.returns-clause-found
returns-clause-found g c clean has sorted =
    let old = state g.S.Store c.args.tx.now.conn.now in
    let mid = state g.S.Store c.scanned_rows.new.tx.conn.now in
    let late = state g.S.Store c.head_rows.new.tx.conn.now in
    let late_clean : HasCleanDisk late = omega (arith, c.record_rows.ensures.survives.clean, clean) in
    let mid_clean : HasCleanDisk mid = omega (arith, c.head_rows.ensures.survives.clean, late_clean) in
    let same : mid.now ≡ old.now = (c.in_ok-worths.ensures.looked mid_clean has).0.now_is in
    let now_has : mid.now.schema ≡ whole = ap (λ (d : Database). d.schema) same ∙ has in
    let still : late.now ≡ old.now = (c.in_ok-heads.ensures.looked late_clean now_has).0.now_is ∙ same in
    let worths = reads_as texts.scan_worths [] old mid whole has _ scan_is scan_plain.0 scan_plain.1 c.in_ok-worths.worths.items (c.in_ok-worths.ensures.answered mid_clean) in
    let heads = reads_as texts.select_whole_head [] mid late whole now_has _ whole_head_is whole_head_plain.0 whole_head_plain.1 c.in_ok-heads.heads.items (c.in_ok-heads.ensures.answered late_clean) in
    let t : Tables = record {
      version = c.in_ok-head.head.version;
      records = map record_of (old.now.trees 0);
      covered = c.in_ok-head.head.covered;
      worths = c.in_ok-sorted_worths_of.field-0;
    } in
    let stands : StandsFor old.now t = found_stands old.now c.in_ok-worths.worths.items c.in_ok-heads.heads.items c.in_ok-sorted_worths_of.field-0 c.in_ok-head.head.version c.in_ok-head.head.covered has sorted worths
    (subst (λ rows. AreSortedOf rows c.in_ok-sorted_worths_of.field-0) c.as_slice-3.ensures.value c.in_ok-sorted_worths_of.ensures.all) c.in_ok-sorted_worths_of.ensures.in_order
    (subst (λ d. Answers d (alone whole_head_query) [] c.in_ok-heads.heads.items) same heads)
    (subst (λ rows. IsOneHead rows c.in_ok-head.head.version c.in_ok-head.head.covered) c.as_slice.ensures.value c.in_ok-head.ensures) in
    let shown = c.in_ok-records.ensures.shown clean t (subst (λ d. StandsFor d t) (sym still) stands) in
    let records = records_read _ c.in_ok-records_of.field-0 t.records shown.0 (subst (λ rows. AreRecordsOf rows c.in_ok-records_of.field-0) c.as_slice-2.ensures.value c.in_ok-records_of.ensures) in
    stands_as old.now _ t stands (tables_same _ t (search rules) records (search rules) refl)

pub returns-clause-turned : goal.returns-clause-turned
returns-clause-turned g c =
    turned_then g.S.Store (λ t. t) c.args.tx.now.conn.now c.head_rows.new.tx.conn.now c.record_rows.new.tx.conn.now
    (turned_then g.S.Store (λ t. t) c.args.tx.now.conn.now c.scanned_rows.new.tx.conn.now c.head_rows.new.tx.conn.now c.in_ok-worths.ensures.turned
    c.head_rows.ensures.survives c.in_ok-heads.ensures.turned) c.record_rows.ensures.survives c.in_ok-records.ensures.turned
