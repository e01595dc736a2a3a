-- Worths without those at some spots, and the spots of movements that go.
use Rattle.std.proofs.Common.{◌≡◌, ℕ, Bool, true, false, cond, not, List, [], ◌∷◌, ◌++◌, map, filter, take, drop, Option, Some, None, inl, inr, refl, sym, ap, ◌∙◌, subst, arith, Contains}
use Rattle.std.specs.List.{list_any}
use Rattle.std.specs.List.Sorted.{IsPermutation}
use Rattle.std.proofs.lemmas.Bool.{false≢true, or_cases, or_left, or_right}
use Rattle.std.proofs.lemmas.List.{take-append-drop}
use Rattle.std.proofs.lemmas.List.Sorted.{list_any-IsPermutation}
use Rattle.stock_nums.specs.declared.entry.Entry.{Entry}
use Rattle.stock_nums.specs.declared.entry.Row.{Row}
use Rattle.stock_nums.specs.declared.entry.Worth.{Worth}
use Rattle.stock_nums.specs.declared.place.Spot.{Spot}
use Rattle.stock_model.specs.Entries.{is_live}
use Rattle.stock_model.specs.PostingOrder.{posting_line}
use Rattle.stock_model.specs.Replay.{replay}
use Rattle.stock_model.specs.declared.records.Record.{Record}
use Rattle.stock_model.proofs.Pairwise.{Pairwise, Each, Contains-cases, Contains-first, Contains-later}
use Rattle.stock_laws.proofs.LiveEntries.{Each-filter, Pairwise-filter}
use Rattle.stock_keeper.specs.Worths.{is_same_spot, is_among, without}
use Rattle.stock_keeper.specs.declared.changes.SpotWorth.{SpotWorth}
use Rattle.stock_keeper.proofs.SpotOrder.{same-from_test}
use Rattle.repost_fetch.specs.Changes.{goes_since, gone_spots, spot_of_entry}
use Rattle.repost_laws.specs.Builds.{is_row_left}
use Rattle.repost_laws.specs.Touched.{is_gone}
use Rattle.repost_laws.proofs.Filtered.{Contains-filtered, Contains-filter}
use Rattle.kept_tables.specs.Differences.{worth_at}
use Rattle.kept_tables.specs.TablesOf.{worths_of}
use Rattle.kept_tables.proofs.OwnSpots.{in-line_of, live-line}
use Rattle.kept_tables.proofs.RowWorths.{row_spot, IsElsewhere, HasOtherSpot, HasAt, fold-elsewhere, fold-held, held_or_elsewhere}
use Rattle.kept_tables.proofs.WorthsAt.{test-refl, worth_at-cons, worth_at-other}

either : (b : Bool) (o : Option Worth) → o ≡ cond b o o
either true o = refl
either false o = refl

-- none stands at a spot that goes, and at others what stood there
pub worth_at-without : (spots : List Spot) (ws : List SpotWorth) (s : Spot) → worth_at (without spots ws) s ≡ cond (is_among spots s) None (worth_at ws s)
worth_at-without spots [] s = either (is_among spots s) None
worth_at-without spots (w ∷ ws) s = by_cases (is_among spots w.spot) refl (worth_at-without spots ws s)
  where
    among-same : (b : Bool) → is_among spots w.spot ≡ b → is_same_spot w.spot s ≡ true → is_among spots s ≡ b
    among-same b is same = subst (λ (t : Spot). is_among spots t ≡ b) (same-from_test w.spot s same) is

    out : is_among spots w.spot ≡ true → (b : Bool) → is_same_spot w.spot s ≡ b
        → cond (is_among spots s) None (worth_at ws s) ≡ cond (is_among spots s) None (worth_at (w ∷ ws) s)
    out is true same =
        let gone = among-same true is same in
        ap (λ (b : Bool). cond b None (worth_at ws s)) gone ∙ sym (ap (λ (b : Bool). cond b None (worth_at (w ∷ ws) s)) gone)
    out is false other = ap (λ (o : Option Worth). cond (is_among spots s) None o) (sym (worth_at-other w ws s other))

    kept : is_among spots w.spot ≡ false → worth_at (without spots ws) s ≡ cond (is_among spots s) None (worth_at ws s) → (b : Bool)
        → is_same_spot w.spot s ≡ b → worth_at (w ∷ without spots ws) s ≡ cond (is_among spots s) None (worth_at (w ∷ ws) s)
    kept is rest true same =
        let stays = among-same false is same in
        let here : (vs : List SpotWorth) → worth_at (w ∷ vs) s ≡ Some w.worth =
        λ vs. worth_at-cons w vs s ∙ ap (λ (b : Bool). cond b (Some w.worth) (worth_at vs s)) same in
        here (without spots ws) ∙ sym (ap (λ (b : Bool). cond b None (worth_at (w ∷ ws) s)) stays ∙ here ws)
    kept is rest false other =
        worth_at-other w (without spots ws) s other ∙ rest
        ∙ ap (λ (o : Option Worth). cond (is_among spots s) None o) (sym (worth_at-other w ws s other))

    by_cases : (b : Bool) → is_among spots w.spot ≡ b → worth_at (without spots ws) s ≡ cond (is_among spots s) None (worth_at ws s)
        → worth_at (cond (not b) (w ∷ without spots ws) (without spots ws)) s ≡ cond (is_among spots s) None (worth_at (w ∷ ws) s)
    by_cases true is rest = rest ∙ out is (is_same_spot w.spot s) refl
    by_cases false is rest = kept is rest (is_same_spot w.spot s) refl

-- where all rows of a spot pass a test, those that pass have what all have there
pub kept-there : (p : Row → Bool) (rows : List Row) (s : Spot) → Pairwise HasOtherSpot rows
    → ((row : Row) → Contains rows row → row_spot row ≡ s → p row ≡ true) → worth_at (worths_of rows) s ≡ worth_at (worths_of (filter p rows)) s
kept-there p rows s own passes =
    elim (held_or_elsewhere rows s) [
      | inl has ↦
          subst (λ (t : Spot). worth_at (worths_of rows) t ≡ worth_at (worths_of (filter p rows)) t) has.at
          (fold-held [] rows has.row own has.held
          ∙ sym (fold-held [] (filter p rows) has.row (Pairwise-filter HasOtherSpot p rows own)
          (Contains-filter p rows has.row has.held (passes has.row has.held has.at))))
      | inr none ↦ fold-elsewhere [] rows s none ∙ sym (fold-elsewhere [] (filter p rows) s (Each-filter (IsElsewhere s) p rows none))
    ]

-- one of the movements is of the spot
record IsOneAt (es : List Entry) (s : Spot) : Type 0 where
  e : Entry
  held : Contains es e
  at : spot_of_entry e ≡ s

one-at : (es : List Entry) (s : Spot) → is_among (map spot_of_entry es) s ≡ true → IsOneAt es s
one-at [] s among = absurd (false≢true among)
one-at (e ∷ es) s among =
    elim (or_cases (is_same_spot (spot_of_entry e) s) (is_among (map spot_of_entry es) s) among) [
      | inl own ↦ record { e = e; held = Contains-first e es; at = same-from_test (spot_of_entry e) s own }
      | inr later ↦ let one = one-at es s later in record { e = one.e; held = Contains-later e es one.e one.held; at = one.at }
    ]

own-among : (es : List Entry) (e : Entry) → Contains es e → is_among (map spot_of_entry es) (spot_of_entry e) ≡ true
own-among [] e held = absurd (omega (arith, held.1))
own-among (f ∷ es) e held =
    elim (Contains-cases f es e held) [
      | inl same ↦ or_left (is_same_spot (spot_of_entry f) (spot_of_entry e)) (is_among (map spot_of_entry es) (spot_of_entry e))
          (subst (λ (g : Entry). is_same_spot (spot_of_entry f) (spot_of_entry g) ≡ true) same (test-refl (spot_of_entry f)))
      | inr later ↦ or_right (is_same_spot (spot_of_entry f) (spot_of_entry e)) (is_among (map spot_of_entry es) (spot_of_entry e)) (own-among es e later)
    ]

module _ (journal : List Record) (n : ℕ) (spots : List Spot) (are : IsPermutation spots (gone_spots n journal)) where
  abbrev front : List Record
  front = take n journal

  abbrev goes : ℕ → Bool
  goes = goes_since n journal

  among-is : (s : Spot) → is_among (gone_spots n journal) s ≡ is_among spots s
  among-is s = sym (list_any-IsPermutation (λ (t : Spot). is_same_spot t s) spots (gone_spots n journal) are)

  -- no row of the whole replay is of a spot that goes
  pub none-there : (s : Spot) → is_among spots s ≡ true → worth_at (worths_of (replay journal)) s ≡ None
  none-there s among =
      let one = one-at (filter (is_gone goes) (posting_line front)) s (among-is s ∙ among) in
      let leaves : goes one.e.place.voucher.0 ≡ true = (Contains-filtered (is_gone goes) (posting_line front) one.e one.held).1 in
      let dead : not (is_live journal one.e.place.voucher.0) ≡ true =
      ap (λ (j : List Record). not (is_live j one.e.place.voucher.0)) (sym (take-append-drop n journal)) ∙ leaves in
      elim (held_or_elsewhere (replay journal) s) [
        | inl has ↦
            let live = live-line journal has.row.entry (in-line_of journal has.row has.held) in
            let number : has.row.entry.place.voucher.0 ≡ one.e.place.voucher.0 = ap (λ (t : Spot). t.voucher.0) (has.at ∙ sym one.at) in
            absurd (false≢true (ap not (sym (sym (ap (is_live journal) number) ∙ live)) ∙ dead))
        | inr none ↦ fold-elsewhere [] (replay journal) s none
      ]

  -- and no old row that goes is of another
  pub others-left : (s : Spot) → is_among spots s ≡ false → (row : Row) → Contains (replay front) row → row_spot row ≡ s
      → is_row_left goes row ≡ true
  others-left s others row held at = by_cases (goes row.entry.place.voucher.0) refl
    where
      by_cases : (b : Bool) → goes row.entry.place.voucher.0 ≡ b → not (goes row.entry.place.voucher.0) ≡ true
      by_cases false stays = ap not stays
      by_cases true leaves =
          let among = own-among (filter (is_gone goes) (posting_line front)) row.entry
          (Contains-filter (is_gone goes) (posting_line front) row.entry (in-line_of front row held) leaves) in
          absurd (false≢true (sym others ∙ sym (among-is s) ∙ subst (λ (t : Spot). is_among (gone_spots n journal) t ≡ true) at among))
