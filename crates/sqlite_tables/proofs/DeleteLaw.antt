-- What the delete at a spot makes of the tables.
use Rattle.std.proofs.Common.{◌≡◌, ℕ, ℤ, pos, List, [], ◌∷◌, true, None, Ok, refl, sym, ap, ◌∙◌, subst, inl, inr, true≢false}
use Rattle.std.specs.Prelude.{◌≢◌}
use Rattle.std.specs.Ordering.{is_eq}
use Rattle.std.proofs.lemmas.Bool.{false_from_ne_true}
use Rattle.std.proofs.lemmas.Cmp.{tied_itself}
use Rattle.sqlite_value.proofs.OrderLemmas.{value_cmp_total}
use Rattle.sqlite_value.specs.declared.value.Value.TheVariants.{Int}
use Rattle.sqlite_value.specs.Order.{Row, column, value_cmp}
use Rattle.sqlite_trees.specs.Tree.{Trees, rowid, has_rowid, IsTable}
use Rattle.sqlite_schema.specs.declared.command.Command.TheVariants.{Delete}
use Rattle.sqlite_rules.specs.declared.error.Rowids.TheVariants.{Given}
use Rattle.sqlite_rules.specs.Calls.{ids_of}
use Rattle.sqlite_rules.specs.Edit.{id_in, edit_of}
use Rattle.sqlite_rules.specs.Lists.{Has}
use Rattle.sqlite_rules.proofs.PlaceLemmas.{tied_same}
use Rattle.sqlite.specs.Does.{Does}
use Rattle.sqlite.specs.Rows.{Task, Written}
use Rattle.sqlite.specs.Listing.{understood}
use Rattle.sqlite.specs.State.{State, mode_of, Executes}
use Rattle.sqlite.proofs.Callers.{statement_of, runs_as, one_step}
use Rattle.stock_nums.specs.Places.{side_rank}
use Rattle.stock_nums.specs.declared.place.Spot.{Spot}
use Rattle.stock_keeper.specs.declared.changes.SpotWorth.{SpotWorth}
use Rattle.stock_keeper.specs.Worths.{without}
use Rattle.stock_keeper.specs.declared.tables.Tables.{Tables}
use Rattle.sqlite_tables.specs.Rows.{spot_row, spot_cells}
use Rattle.sqlite_tables.specs.Standing.{StandsFor, HoldsWorths}
use Rattle.sqlite_tables.specs.Texts as texts
use Rattle.sqlite_tables.specs.Turning.{without_spot}
use Rattle.sqlite_tables.specs.Whole.{whole, worths_table}
use Rattle.sqlite_tables.proofs.EditLaw.{after, after_has, after_keeps, IsTable-after}
use Rattle.sqlite_tables.proofs.Members.{has_map, has_mapped}
use Rattle.sqlite_tables.proofs.QueryLaw.{shown_has, shown_all}
use Rattle.sqlite_tables.proofs.Steps.{went, same_value, concluded, zero≢one, three≢one}
use Rattle.sqlite_tables.proofs.Tests.{at_is, at_from, tied}
use Rattle.sqlite_tables.proofs.TextLaws.{alone, remove_tests, remove_terms, remove_query, remove_is, remove_plain}
use Rattle.sqlite_tables.proofs.WorthLaw.{holds_without, spot_of_cells}

-- in a table the rows with one rowid are one
pub rowid_is : (rows : List Row) (a b : Row) (id : ℤ) → IsTable rows → Has rows a → Has rows b → column b 0 ≡ Int id → has_rowid id a ≡ true → a ≡ b
rowid_is rows a b id table h k keyed has = tied_same rows a b table h k (ap (value_cmp (rowid a)) keyed ∙ tied _ has)

-- a row has its own rowid
pub has_itself : (r : Row) (id : ℤ) → column r 0 ≡ Int id → has_rowid id r ≡ true
has_itself r id keyed = rw keyed (ap is_eq (tied_itself value_cmp_total (Int id)))

module _ (rows : List Row) (ws : List SpotWorth) (holds : HoldsWorths rows ws) (s : Spot) (asked : List Row)
    (shown : (x : Row) → Has asked x → (r : Row) × Has rows r × (spot_cells r ≡ spot_row s) × (x ≡ column r 0 ∷ []))
    (all : (r : Row) → Has rows r → spot_cells r ≡ spot_row s → Has asked (column r 0 ∷ [])) where
  -- the rows that are left are those at other spots
  pub left_has : (x : Row) → Has (after rows (ids_of asked) []) x → Has rows x × (spot_cells x ≢ spot_row s)
  left_has x h = elim (after_has rows (ids_of asked) [] x h) [
    | inl none ↦ absurd none
    | inr was ↦ (
      was.0,
      λ same.
          let it = holds.rows_are x was.0 in
          let there = has_map (λ (r : Row). id_in (rowid r)) asked (column x 0 ∷ []) (all x was.0 same) in
          let gone : Has (ids_of asked) it.1 = subst (Has (ids_of asked)) (ap id_in it.4) there in
          true≢false (sym (has_itself x it.1 it.4) ∙ was.1 it.1 gone),
    )
  ]

  pub left_keeps : (x : Row) → Has rows x → spot_cells x ≢ spot_row s → Has (after rows (ids_of asked) []) x
  left_keeps x h other = after_keeps rows (ids_of asked) [] x refl (λ id gone. false_from_ne_true _ (λ has.
      let from = has_mapped (λ (r : Row). id_in (rowid r)) asked id gone in
      let row = shown from.0 from.1 in
      let it = holds.rows_are row.0 row.1 in
      let same_id : id ≡ it.1 = from.2 ∙ ap (λ (r : Row). id_in (rowid r)) row.3 ∙ ap id_in it.4 in
      let one = rowid_is rows x row.0 id holds.rises h row.1 (it.4 ∙ ap Int (sym same_id)) has in
      other (ap spot_cells one ∙ row.2))) h

  pub left_holds : HoldsWorths (after rows (ids_of asked) []) (without (s ∷ []) ws)
  left_holds = holds_without rows (after rows (ids_of asked) []) ws holds (IsTable-after rows (ids_of asked) [] holds.rises) s left_has left_keeps

pub removes : (old new : State) (s : Spot) (count : ℕ) → Executes texts.remove_worth (spot_row s) old new (Ok count)
    → (t : Tables) → StandsFor old.now t → Unit {0} → StandsFor new.now (without_spot s t)
removes old new s count h t stands _ =
    let params = spot_row s in
    let db = old.now.trees in
    let command = Delete 1 (alone remove_query) in
    let w = runs_as texts.remove_worth params old new whole stands.schema command remove_is remove_plain count h in
    let text = statement_of texts.remove_worth (understood whole texts.remove_worth) in
    let task : Task = record { limit = old.step_limit; keys = (mode_of old).keys; schema = whole; table = worths_table; params = params } in
    let done = concluded task (mode_of old) command db w.tally new.now
    (subst (λ s. Does old.step_limit (mode_of old) params (record old.now { schema = s }) text None command (Ok (w.tally, new.now))) stands.schema w.changed) in
    let asked = went done.1 in
    let written = went asked.2 in
    let trees : done.0.trees ≡ written.0 = ap (λ (it : Written). it.trees) (same_value written.2) in
    let applied = one_step whole _ db written.0 (edit_of db worths_table (ids_of asked.0) Given 0 []) refl written.1 in
    let now : new.now ≡ record { schema = whole; trees = written.0 } = done.2 ∙ ap (λ (ts : Trees). record { schema = whole; trees = ts }) trees in
    let v = pos s.voucher.0 in
    let l = pos s.line in
    let k = pos (side_rank s.side) in
    let shown : (x : Row) → Has asked.0 x → (r : Row) × Has (db 1) r × (spot_cells r ≡ spot_row s) × (x ≡ column r 0 ∷ []) = λ x there.
    (let row = shown_has 1 remove_tests remove_terms [] db params whole asked.0 refl asked.1 x there in
    let it = stands.worths.rows_are row.0 row.1 in
    (row.0, row.1, at_is row.0 _ _ _ v l k (spot_of_cells row.0 it.0 it.3) row.2, row.3)) in
    let all : (r : Row) → Has (db 1) r → spot_cells r ≡ spot_row s → Has asked.0 (column r 0 ∷ []) = λ r there same.
    shown_all 1 remove_tests remove_terms [] db params whole asked.0 refl asked.1 r there (at_from r v l k same) in
    let records = applied.tables.0 zero≢one in
    rw now (record {
      schema = refl;
      records = rw records stands.records;
      rises = rw records stands.rises;
      worths = rw applied.rows (left_holds (db 1) t.worths stands.worths s asked.0 shown all);
      head = rw (applied.tables.1.1.0 three≢one) stands.head;
    })
