-- The worths of the rows that changed, put among the old ones, are those of all rows once those that go are taken out.
use Rattle.std.proofs.Common.{◌≡◌, ℕ, pos, ◌<◌, Bool, true, false, cond, not, None, List, [], ◌∷◌, ◌++◌, map, fold, filter, take, inl, inr, refl, sym, ap, ◌∙◌, subst, arith, Contains}
use Rattle.std.proofs.lemmas.List.{append-nil, take-take}
use Rattle.std.proofs.lemmas.List.Kept.{AllPairs-filter}
use Rattle.stock_nums.specs.declared.entry.Row.{Row}
use Rattle.stock_nums.specs.declared.numbers.RecordNo.{RecordNo}
use Rattle.stock_nums.specs.declared.place.Spot.{Spot}
use Rattle.stock_model.specs.History.{records, covered, covered_records}
use Rattle.stock_model.specs.Replay.{replay}
use Rattle.stock_model.specs.declared.deeds.Deed.{Deed}
use Rattle.stock_model.specs.declared.deeds.Deed.TheVariants.{Published}
use Rattle.stock_model.specs.declared.records.Record.{Record}
use Rattle.stock_model.proofs.Pairwise.{Pairwise, Each, Pairwise-from_AllPairs}
use Rattle.stock_laws.proofs.Histories.{records-append, covered_after-append}
use Rattle.stock_keeper.specs.Changed.{current_version, published}
use Rattle.stock_keeper.specs.Worths.{IsBefore, AreInOrder, put, is_among, without}
use Rattle.stock_keeper.specs.declared.changes.SpotWorth.{SpotWorth}
use Rattle.stock_keeper.specs.declared.tables.Tables.{Tables}
use Rattle.repost_laws.specs.Builds.{ValuedSince, is_as_published, is_row_left}
use Rattle.repost_laws.proofs.Filtered.{Contains-filtered, Contains-filter}
use Rattle.repost_fetch.specs.Changes.{is_valued, goes_since, AreChanges}
use Rattle.kept_tables.specs.Differences.{worth_at}
use Rattle.kept_tables.specs.TablesOf.{stored_from, spot_of, spot_worth, worths_of, changes_of, tables_of}
use Rattle.kept_tables.proofs.GoneWorths.{worth_at-without, kept-there, none-there, others-left}
use Rattle.kept_tables.proofs.OwnSpots.{HasEntry, HasEntry-left, AllPairs-replay}
use Rattle.kept_tables.proofs.RowWorths.{IsElsewhere, HasOtherSpot, HasAt, fold-elsewhere, fold-held, held_or_elsewhere, not_elsewhere, AreInOrder-worths_of}
use Rattle.kept_tables.proofs.WorthsAt.{same-from_spots, AreInOrder-fold}

-- old rows that do not go and all rows, each of a spot of its own: those at places that were not valued are the same, and one of all rows is
-- of the movement of each old one
pub record AreRevalued (valued : ValuedSince) (old all : List Row) : Type 0 where
  pub old_own : Pairwise HasOtherSpot old
  pub own : Pairwise HasOtherSpot all
  pub changed_own : Pairwise HasOtherSpot (filter (is_valued valued) all)
  pub known : (row : Row) → Contains old row → HasEntry all row.entry
  pub same : filter (is_as_published valued) all ≡ filter (is_as_published valued) old

module _ (valued : ValuedSince) (old all : List Row) (are : AreRevalued valued old all) where
  abbrev changed_rows : List Row
  changed_rows = filter (is_valued valued) all

  -- a row that was not valued is an old one, and an old one is one of all
  was_old : (row : Row) → Contains all row → is_valued valued row ≡ false → Contains old row
  was_old row held is =
      (Contains-filtered (is_as_published valued) old row
      (subst (λ (rows : List Row). Contains rows row) are.same (Contains-filter (is_as_published valued) all row held (ap not is)))).0

  still_held : (row : Row) → Contains old row → is_valued valued row ≡ false → Contains all row
  still_held row held is =
      (Contains-filtered (is_as_published valued) all row
      (subst (λ (rows : List Row). Contains rows row) (sym are.same)
      (Contains-filter (is_as_published valued) old row held (ap not is)))).0

  -- where no row of a spot changed, no old row of it was valued, and none of all
  HasAt-changed : (row : Row) → Contains all row → is_valued valued row ≡ true → HasAt changed_rows (spot_of row.entry.place)
  HasAt-changed row held is = record { row = row; held = Contains-filter (is_valued valued) all row held is; at = refl }

  old-unvalued : (s : Spot) → Each (IsElsewhere s) changed_rows → (has : HasAt old s) → is_valued valued has.row ≡ false
  old-unvalued s others has = by_test (is_valued valued has.row) refl
    where
      by_test : (b : Bool) → is_valued valued has.row ≡ b → is_valued valued has.row ≡ false
      by_test false is = is
      by_test true is =
          let now = are.known has.row has.held in
          let valued_now : is_valued valued now.row ≡ true = ap (λ e. valued e.place) now.is ∙ is in
          let at : spot_of now.row.entry.place ≡ s = ap (λ e. spot_of e.place) now.is ∙ has.at in
          absurd (not_elsewhere changed_rows s (subst (HasAt changed_rows) at (HasAt-changed now.row now.held valued_now)) others)

  all-unvalued : (s : Spot) → Each (IsElsewhere s) changed_rows → (has : HasAt all s) → is_valued valued has.row ≡ false
  all-unvalued s others has = by_test (is_valued valued has.row) refl
    where
      by_test : (b : Bool) → is_valued valued has.row ≡ b → is_valued valued has.row ≡ false
      by_test false is = is
      by_test true is =
          absurd (not_elsewhere changed_rows s (subst (HasAt changed_rows) has.at (HasAt-changed has.row has.held is)) others)

  -- what stands at a spot of which no row changed
  kept-at : (s : Spot) → Each (IsElsewhere s) changed_rows → worth_at (worths_of old) s ≡ worth_at (worths_of all) s
  kept-at s others =
      elim (held_or_elsewhere old s) [
        | inl has ↦
            subst (λ (t : Spot). worth_at (worths_of old) t ≡ worth_at (worths_of all) t) has.at
            (fold-held [] old has.row are.old_own has.held
            ∙ sym (fold-held [] all has.row are.own (still_held has.row has.held (old-unvalued s others has))))
        | inr none ↦ elim (held_or_elsewhere all s) [
          | inl has ↦
              absurd (not_elsewhere old s
              (record { row = has.row; held = was_old has.row has.held (all-unvalued s others has); at = has.at }) none)
          | inr neither ↦ fold-elsewhere [] old s none ∙ sym (fold-elsewhere [] all s neither)
        ]
      ]

  -- and at each spot, once what changed is put among worths that are those of the old rows there
  pub same-at : (ws : List SpotWorth) (s : Spot) → worth_at ws s ≡ worth_at (worths_of old) s
      → worth_at (fold put ws (map spot_worth changed_rows)) s ≡ worth_at (worths_of all) s
  same-at ws s before =
      elim (held_or_elsewhere changed_rows s) [
        | inl has ↦
            subst (λ (t : Spot). worth_at (fold put ws (map spot_worth changed_rows)) t ≡ worth_at (worths_of all) t)
            has.at
            (fold-held ws changed_rows has.row are.changed_own has.held
            ∙ sym (fold-held [] all has.row are.own (Contains-filtered (is_valued valued) all has.row has.held).0))
        | inr others ↦ fold-elsewhere ws changed_rows s others ∙ before ∙ kept-at s others
      ]

-- the rows of a replay, and those of a replay of the first records that do not go, are such
AreRevalued-changes : (journal : List Record) (n : ℕ) (changed : List Row) (spots : List Spot) (are : AreChanges journal n changed spots)
    → AreRevalued are.valued (filter (is_row_left (goes_since n journal)) (replay (take n journal))) (replay journal)
AreRevalued-changes journal n changed spots are =
    let left = is_row_left (goes_since n journal) in
    let old = replay (take n journal) in
    record {
      old_own = Pairwise-from_AllPairs HasOtherSpot (filter left old) (AllPairs-filter HasOtherSpot left old (AllPairs-replay (take n journal)));
      own = Pairwise-from_AllPairs HasOtherSpot (replay journal) (AllPairs-replay journal);
      changed_own = Pairwise-from_AllPairs HasOtherSpot (filter (is_valued are.valued) (replay journal))
          (AllPairs-filter HasOtherSpot (is_valued are.valued) (replay journal) (AllPairs-replay journal));
      known = λ row held.
          let parts = Contains-filtered left old row held in
          HasEntry-left journal n row parts.0 parts.1;
      same = are.others;
    }

-- what changed, put among the worths of the first records, makes the worths of all once those that go are taken out
worths_of-changed : (journal : List Record) (n : ℕ) (changed : List Row) (spots : List Spot) → AreChanges journal n changed spots
    → without spots (fold put (worths_of (replay (take n journal))) (map spot_worth changed)) ≡ worths_of (replay journal)
worths_of-changed journal n changed spots are =
    let old = replay (take n journal) in
    let all = replay journal in
    let left = is_row_left (goes_since n journal) in
    let valued_rows = filter (is_valued are.valued) all in
    let made = fold put (worths_of old) (map spot_worth valued_rows) in
    let in_order : AreInOrder made = AreInOrder-fold (worths_of old) (map spot_worth valued_rows) (AreInOrder-worths_of old) in
    let own = Pairwise-from_AllPairs HasOtherSpot old (AllPairs-replay (take n journal)) in
    let at : (s : Spot) → (b : Bool) → is_among spots s ≡ b → cond b None (worth_at made s) ≡ worth_at (worths_of all) s = λ s b.
    elim b as (λ v. is_among spots s ≡ v → cond v None (worth_at made s) ≡ worth_at (worths_of all) s) [
      | true ↦ λ among. sym (none-there journal n spots are.gone s among)
      | false ↦ λ others.
          same-at are.valued (filter left old) all (AreRevalued-changes journal n changed spots are) (worths_of old) s
          (kept-there left old s own (others-left journal n spots are.gone s others))
    ] in
    ap (λ (rows : List Row). without spots (fold put (worths_of old) (map spot_worth rows))) are.rows
    ∙ same-from_spots (without spots made) (worths_of all)
    (Pairwise-from_AllPairs IsBefore (without spots made) (AllPairs-filter IsBefore (λ w. not (is_among spots w.spot)) made in_order))
    (Pairwise-from_AllPairs IsBefore (worths_of all) (AreInOrder-worths_of all))
    (λ s. worth_at-without spots made s ∙ at s (is_among spots s) refl)

-- a publication of what changed makes the tables of the history with it
pub tables_of-published : (history : List Deed) (n : RecordNo) (changed : List Row) (spots : List Spot) → covered history < n.0
    → AreChanges (take n.0 (records history)) (covered history) changed spots
    → published n (changes_of changed spots) (tables_of history) ≡ tables_of (history ++ Published n ∷ [])
tables_of-published history n changed spots more are =
    let last = Published n ∷ [] in
    let journal = take n.0 (records history) in
    let made : List Record → ℕ → List SpotWorth → Tables =
    λ items m worths. record { version = current_version; records = stored_from 1 items; covered = pos m; worths = worths } in
    let old : worths_of (replay (take (covered history) journal)) ≡ worths_of (replay (covered_records history)) =
    ap (λ (items : List Record). worths_of (replay items)) (take-take (covered history) n.0 (records history) (omega arith)) in
    let old_worths = worths_of (replay (covered_records history)) in
    let worths : without spots (fold put old_worths (map spot_worth changed)) ≡ worths_of (replay journal) =
    ap (λ (ws : List SpotWorth). without spots (fold put ws (map spot_worth changed))) (sym old)
    ∙ worths_of-changed journal (covered history) changed spots are in
    let all : records history ≡ records (history ++ last) = sym (records-append history last ∙ append-nil (records history)) in
    let upto : n.0 ≡ covered (history ++ last) = sym (covered_after-append 0 history last) in
    ap (made (records history) n.0) worths
    ∙ ap (λ (items : List Record). made items n.0 (worths_of (replay (take n.0 items)))) all
    ∙ ap (λ (m : ℕ). made (records (history ++ last)) m (worths_of (replay (take m (records (history ++ last)))))) upto
