-- What the insert of a worth at a spot, or the update of the one that stands there, makes of the tables.
use Rattle.std.proofs.Common.{◌≡◌, ℕ, ℤ, pos, List, [], ◌∷◌, ◌++◌, Bool, true, false, ◌||◌, map, drop, None, Some, Ok, Option, refl, sym, ap, ◌∙◌, subst, inl, inr, true≢false}
use Rattle.std.specs.Prelude.{◌≢◌}
use Rattle.std.proofs.lemmas.Bool.{and_parts, and_from, false_from_ne_true}
use Rattle.sqlite_value.specs.Keys.{first_key}
use Rattle.sqlite_value.specs.declared.value.Value.TheVariants.{Null, Int}
use Rattle.sqlite_value.specs.Order.{Row, column}
use Rattle.sqlite_trees.specs.Tree.{Trees, rowid, put_row}
use Rattle.sqlite_schema.specs.declared.command.Source.TheVariants.{Values}
use Rattle.sqlite_schema.specs.declared.command.Conflict.TheVariants.{Abort}
use Rattle.sqlite_schema.specs.declared.command.Upsert.{Upsert}
use Rattle.sqlite_schema.specs.declared.command.Command.TheVariants.{InsertOr}
use Rattle.sqlite_schema.specs.declared.schema.Keys.{Keys}
use Rattle.sqlite_schema.specs.Rules.{equal}
use Rattle.sqlite_value.specs.declared.keys.Collation.TheVariants.{Binary}
use Rattle.sqlite_rules.specs.declared.error.Rowids.TheVariants.{Given, Chosen}
use Rattle.sqlite_rules.specs.Cast.{cast_row}
use Rattle.sqlite_rules.specs.declared.error.Refusal.{Refusal}
use Rattle.sqlite_rules.specs.Calls.{ids_of}
use Rattle.sqlite_rules.specs.Edit.{id_in, next_rowid, with_rowid, numbered, without_all, edit_of, are_fresh}
use Rattle.sqlite_rules.specs.Keys.{AreConflicts, conflicts}
use Rattle.sqlite_rules.specs.Lists.{Has}
use Rattle.sqlite.specs.Does.{Does}
use Rattle.sqlite.specs.Rows.{Task, Written, nothing, count_of, shown, Tries, TriesEach, InsertsOr, Judged, Upserts, Meets, Clears, Puts, Updates}
use Rattle.sqlite.specs.Listing.{understood}
use Rattle.sqlite.specs.State.{State, mode_of, Executes}
use Rattle.sqlite.proofs.Callers.{statement_of, runs_as, one_step}
use Rattle.stock_nums.specs.Places.{side_rank}
use Rattle.stock_keeper.specs.declared.changes.SpotWorth.{SpotWorth}
use Rattle.stock_keeper.specs.Worths.{put}
use Rattle.stock_keeper.specs.declared.tables.Tables.{Tables}
use Rattle.sqlite_tables.specs.Rows.{spot_row, worth_row, spot_cells}
use Rattle.sqlite_tables.specs.Standing.{StandsFor, HoldsWorths}
use Rattle.sqlite_tables.specs.Texts as texts
use Rattle.sqlite_tables.specs.Turning.{with_worth}
use Rattle.sqlite_tables.specs.Whole.{whole, worths_table, worths_index}
use Rattle.sqlite_tables.proofs.DeleteLaw.{has_itself, rowid_is}
use Rattle.sqlite_tables.proofs.EditLaw.{after, after_has, after_adds, after_keeps, IsTable-after}
use Rattle.sqlite_tables.proofs.Members.{has_map, has_mapped}
use Rattle.sqlite_tables.proofs.QueryLaw.{shown_as, shown_has, shown_all}
use Rattle.sqlite_tables.proofs.Steps.{went, same_value, cast-Int, cast-Null, concluded, zero≢one, three≢one}
use Rattle.sqlite_tables.proofs.Tests.{equal_self, equal_is, is_at, at_is, at_from}
use Rattle.sqlite_tables.proofs.TextLaws.{alone, put_terms, put_tests, put_shown, put_query, put_is, put_plain}
use Rattle.sqlite_tables.proofs.WorthLaw.{holds_put, spot_of_cells}

-- the worth as a row with this rowid
abbrev pub row_with : ℤ → SpotWorth → Row
row_with id w = Int id ∷ worth_row w

or_false : (b : Bool) → (b || false) ≡ b
or_false true = refl
or_false false = refl

-- what conflicts under the key is what stands at the spot
conflicts_is : (id : ℤ) (w : SpotWorth) (r : Row) → conflicts (Some (1 ∷ 2 ∷ 3 ∷ [])) (worths_index ∷ []) worths_table (row_with id w) r
    ≡ is_at r (pos w.spot.voucher.0) (pos w.spot.line) (pos (side_rank w.spot.side))
unfolding first_key
conflicts_is id w r = or_false _

-- the worth at its spot in these trees, and no other tree changed
abbrev IsPut : Trees → List SpotWorth → SpotWorth → Trees → Type 0
IsPut db ws w next = (next 0 ≡ db 0) × (next 3 ≡ db 3) × HoldsWorths (next 1) (put ws w)

-- where no row is at the spot, one is put in
module _ (rows : List Row) (ws : List SpotWorth) (holds : HoldsWorths rows ws) (w : SpotWorth) where
  added : (id : ℤ) → ((r : Row) → Has rows r → spot_cells r ≢ spot_row w.spot) → are_fresh rows (row_with id w ∷ []) ≡ true → HoldsWorths (after rows [] (row_with id w ∷ [])) (put ws w)
  added id none fresh =
      let new = row_with id w in
      holds_put rows (after rows [] (new ∷ [])) ws holds (IsTable-after rows [] (new ∷ []) holds.rises) w new id refl refl (after_adds rows [] (new ∷ []) new fresh (inl refl))
      (λ x h. elim (after_has rows [] (new ∷ []) x h) [
        | inl is ↦ elim is [ inl same ↦ inl same | inr nothing ↦ absurd nothing ]
        | inr was ↦ inr (was.0, none x was.0)
      ])
      (λ x h other. after_keeps rows [] (new ∷ []) x fresh (λ i nothing. absurd nothing) h)

  -- the row at the spot, which one with the same rowid takes the place of
  module _ (there : Row) (at : Has rows there) (spot : spot_cells there ≡ spot_row w.spot) (id : ℤ) (keyed : column there 0 ≡ Int id) (gone : List ℤ) (news : List Row)
      (gone_all : (i : ℤ) → Has gone i → i ≡ id) (gone_is : Has gone id) (news_all : (y : Row) → Has news y → y ≡ row_with id w) (news_is : Has news (row_with id w))
      (fresh : are_fresh (without_all rows gone) news ≡ true) where
    replaced : HoldsWorths (after rows gone news) (put ws w)
    replaced =
        holds_put rows (after rows gone news) ws holds (IsTable-after rows gone news holds.rises) w (row_with id w) id refl refl (after_adds rows gone news (row_with id w) fresh news_is)
        (λ x h. elim (after_has rows gone news x h) [
          | inl new ↦ inl (news_all x new)
          | inr was ↦ inr (
            was.0,
            λ same.
                let one = holds.apart x there was.0 at (same ∙ sym spot) in
                true≢false (sym (has_itself x id (ap (λ (r : Row). column r 0) one ∙ keyed)) ∙ was.1 id gone_is),
          )
        ])
        (λ x h other. after_keeps rows gone news x fresh (λ i out. false_from_ne_true _ (λ has.
        let one = rowid_is rows x there i holds.rises h at (keyed ∙ ap Int (sym (gone_all i out))) has in
        other (ap spot_cells one ∙ spot))) h)

-- rowids that are given stay
numbered-Given : (rows news : List Row) → numbered Given rows news ≡ news
numbered-Given rows [] = refl
numbered-Given rows (n ∷ news) = ap (λ l. n ∷ l) (numbered-Given (put_row n rows) news)

abbrev clause : Upsert
clause = record { target = Some (1 ∷ 2 ∷ 3 ∷ []); update = Some (alone put_query) }

-- the row as it is put
cast_new : (id : ℤ) (w : SpotWorth) → cast_row worths_table (row_with id w) ≡ row_with id w
cast_new id w = rw (cast-Int id, cast-Int (pos w.spot.voucher.0), cast-Int (pos w.spot.line), cast-Int (pos (side_rank w.spot.side)), cast-Int w.worth.value.0, cast-Int w.worth.share.0) refl

module _ (limit : Option ℕ) (keys : Keys) (db : Trees) (ws : List SpotWorth) (holds : HoldsWorths (db 1) ws) (w : SpotWorth) where
  abbrev task : Task
  task = record { limit = limit; keys = keys; schema = whole; table = worths_table; params = worth_row w }

  puts : (id : ℤ) (one : Written) → ((r : Row) → Has (db 1) r → spot_cells r ≢ spot_row w.spot) → Puts task (row_with id w) db (Ok one) → IsPut db ws w one.trees
  puts id one none h =
      let new = row_with id w in
      let written = went h in
      let trees : one.trees ≡ written.0 = ap (λ (it : Written). it.trees) (same_value written.2) in
      let applied = one_step whole keys db written.0 (edit_of db worths_table [] Given 0 (new ∷ [])) refl written.1 in
      let news : cast_row worths_table new ∷ [] ≡ new ∷ [] = ap (λ r. r ∷ []) (cast_new id w) in
      let fresh : are_fresh (db 1) (new ∷ []) ≡ true = subst (λ l. are_fresh (db 1) l ≡ true) news applied.fresh in
      let rows : written.0 1 ≡ after (db 1) [] (new ∷ []) = applied.rows ∙ ap (after (db 1) []) news in
      subst (IsPut db ws w) (sym trees) (applied.tables.0 zero≢one, applied.tables.1.1.0 three≢one, rw rows (added (db 1) ws holds w id none fresh))

  -- the parameters of the update: those given, the rowid of the row that is there, and the new row
  abbrev given_for : Row → Row → Row
  given_for there new = worth_row w ++ rowid there ∷ shown worths_table new

  updates : (new there : Row) (id : ℤ) (one : Written) → Has (db 1) there → spot_cells there ≡ spot_row w.spot → column there 0 ≡ Int id
      → Updates task (alone put_query) (given_for (rowid there ∷ []) new) db (Ok one) → IsPut db ws w one.trees
  updates new there id one at spot keyed h =
      let params = given_for (rowid there ∷ []) new in
      let asked = went h in
      let written = went asked.2 in
      let trees : one.trees ≡ written.0 = ap (λ (it : Written). it.trees) (same_value written.2) in
      let rows = db 1 in
      let gone = ids_of asked.0 in
      let edit = edit_of db worths_table gone Given 1 asked.0 in
      let applied = one_step whole keys db written.0 edit refl written.1 in
      let x : Row = Int id ∷ row_with id w in
      let is_x : (r : Row) → r ≡ there → shown_as 1 put_tests put_shown [] db params r ≡ x = λ r same. subst (λ (q : Row). shown_as 1 put_tests put_shown [] db params q ≡ x) (sym same) (shown_is there id spot keyed new) in
      let all : (y : Row) → Has asked.0 y → y ≡ x = λ y h.
      (let row = shown_has 1 put_tests put_shown [] db params whole asked.0 refl asked.1 y h in
      let it = holds.rows_are row.0 row.1 in
      let same_id = equal_is (column row.0 0) it.1 id it.4 (subst (λ v. equal Binary (column row.0 0) v ≡ true) keyed (and_parts _ _ row.2).0) in
      row.3 ∙ is_x row.0 (rowid_is rows row.0 there id holds.rises row.1 at keyed (has_itself row.0 id same_id))) in
      let some : Has asked.0 x = subst (Has asked.0) (is_x there refl)
      (shown_all 1 put_tests put_shown [] db params whole asked.0 refl asked.1 there at (and_from _ _ (rw keyed (equal_self id)) refl)) in
      let news : List Row = map (λ (s : Row). cast_row worths_table (drop 1 s)) asked.0 in
      let numbered_are : edit.news ≡ news = numbered-Given _ news in
      let cast_x : cast_row worths_table (drop 1 x) ≡ row_with id w = cast_new id w in
      let fresh : are_fresh (without_all rows gone) news ≡ true = subst (λ l. are_fresh (without_all rows gone) l ≡ true) numbered_are applied.fresh in
      let ends : written.0 1 ≡ after rows gone news = applied.rows ∙ ap (after rows gone) numbered_are in
      let made = replaced rows ws holds w there at spot id keyed gone news
      (λ i h. let from = has_mapped (λ (r : Row). id_in (rowid r)) asked.0 i h in from.2 ∙ ap (λ (r : Row). id_in (rowid r)) (all from.0 from.1))
      (has_map (λ (r : Row). id_in (rowid r)) asked.0 x some)
      (λ y h. let from = has_mapped (λ (s : Row). cast_row worths_table (drop 1 s)) asked.0 y h in from.2 ∙ ap (λ (s : Row). cast_row worths_table (drop 1 s)) (all from.0 from.1) ∙ cast_x)
      (subst (Has news) cast_x (has_map (λ (s : Row). cast_row worths_table (drop 1 s)) asked.0 x some)) fresh in
      subst (IsPut db ws w) (sym trees) (applied.tables.0 zero≢one, applied.tables.1.1.0 three≢one, rw ends made)
    where
      shown_is : (there : Row) (id : ℤ) → spot_cells there ≡ spot_row w.spot → column there 0 ≡ Int id → (new : Row)
          → shown_as 1 put_tests put_shown [] db (given_for (rowid there ∷ []) new) there ≡ Int id ∷ row_with id w
      shown_is there id spot keyed new =
          let first : column there 1 ≡ Int (pos w.spot.voucher.0) = cc in
          let second : column there 2 ≡ Int (pos w.spot.line) = cc in
          let third : column there 3 ≡ Int (pos (side_rank w.spot.side)) = cc in
          rw (keyed, first, second, third) refl

  clears : (id : ℤ) (one : Written) (found : List Row) → ((r : Row) → Has (db 1) r → spot_cells r ≢ spot_row w.spot) → Clears task Abort (row_with id w) db found (Ok one) → IsPut db ws w one.trees
  clears id one [] none h = puts id one none h
  clears id one (x ∷ more) none h = puts id one none h

  meets : (id : ℤ) (one : Written) (found : List Row) → AreConflicts (Some (1 ∷ 2 ∷ 3 ∷ [])) whole.indexes worths_table (db 1) (row_with id w) found
      → Meets task (Upserts task Abort (row_with id w) db []) (row_with id w) db clause found (Ok one) → IsPut db ws w one.trees
  meets id one [] are h =
      clears id one h.0 (λ r there same. are.complete r there (conflicts_is id w r ∙ at_from r _ _ _ same)) h.2
  meets id one (there ∷ more) are h =
      let from = are.sound there (inl refl) in
      let it = holds.rows_are from.0 from.1 in
      let spot = at_is from.0 _ _ _ _ _ _ (spot_of_cells from.0 it.0 it.3) (sym (conflicts_is id w from.0) ∙ from.2) in
      updates (row_with id w) from.0 it.1 one from.1 spot it.4 (subst (λ (x : Row). Updates task (alone put_query) (given_for x (row_with id w)) db (Ok one)) from.3 h)

  judged : (id : ℤ) (one : Written) (verdict : Option Refusal) → Judged task Abort (clause ∷ []) (row_with id w) db verdict (Ok one) → IsPut db ws w one.trees
  judged id one None h = meets id one h.0 h.1 h.2
  judged id one (Some why) h = absurd (let e = h in cc)

  tries : (id : ℤ) (one : Written) → Tries task Abort (clause ∷ []) (row_with id w) db (Ok one) → IsPut db ws w one.trees
  tries id one (inl refused) = absurd (let e = refused.1 in cc)
  tries id one (inr h) = judged id one h.0 h.2

  -- the row that the insert gives, as it is put
  numbered_new : with_rowid Chosen (db 1) (cast_row worths_table (Null ∷ worth_row w)) ≡ row_with (next_rowid (db 1)) w
  numbered_new = rw (cast-Null, cast-Int (pos w.spot.voucher.0), cast-Int (pos w.spot.line), cast-Int (pos (side_rank w.spot.side)), cast-Int w.worth.value.0, cast-Int w.worth.share.0) refl

  inserts : (one : Written) → InsertsOr task Abort (clause ∷ []) (Values put_terms 6) db (Ok one) → IsPut db ws w one.trees
  inserts one h =
      let given = went h in
      let counter = went given.2 in
      let tried = went counter.2 in
      let counted = went tried.2 in
      let each = went (subst (λ l. TriesEach task Abort (clause ∷ []) l (count_of counter.0) (nothing db) (Ok tried.0)) given.1.1 tried.1) in
      let done = tries (next_rowid (db 1)) each.0 (subst (λ r. Tries task Abort (clause ∷ []) r db (Ok each.0)) numbered_new each.1) in
      let trees : one.trees ≡ each.0.trees =
      ap (λ (it : Written). it.trees) (same_value counted.2) ∙ same_value counted.1 ∙ ap (λ (it : Written × ℤ). it.0.trees) (same_value each.2) in
      subst (IsPut db ws w) (sym trees) done

pub puts_worth : (old new : State) (w : SpotWorth) (count : ℕ) → Executes texts.put_worth (worth_row w) old new (Ok count)
    → (t : Tables) → StandsFor old.now t → Unit {0} → StandsFor new.now (with_worth w t)
puts_worth old new w count h t stands _ =
    let params = worth_row w in
    let db = old.now.trees in
    let command = InsertOr 1 Abort (Values put_terms 6) (clause ∷ []) in
    let wrote = runs_as texts.put_worth params old new whole stands.schema command put_is put_plain count h in
    let text = statement_of texts.put_worth (understood whole texts.put_worth) in
    let done = concluded (task old.step_limit (mode_of old).keys db t.worths stands.worths w) (mode_of old) command db wrote.tally new.now
    (subst (λ s. Does old.step_limit (mode_of old) params (record old.now { schema = s }) text None command (Ok (wrote.tally, new.now))) stands.schema wrote.changed) in
    let put = inserts old.step_limit (mode_of old).keys db t.worths stands.worths w done.0 done.1 in
    rw done.2 (record {
      schema = refl;
      records = rw put.0 stands.records;
      rises = rw put.0 stands.rises;
      worths = put.2;
      head = rw put.1 stands.head;
    })
