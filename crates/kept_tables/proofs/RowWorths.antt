-- What stands at a spot once the worths of rows are put in.
use Rattle.std.proofs.Common.{◌≡◌, Bool, true, false, cond, List, [], ◌∷◌, map, fold, Some, ◌⊎◌, inl, inr, refl, sym, ap, ◌∙◌, subst, arith, Contains}
use Rattle.std.proofs.lemmas.Bool.{false≢true}
use Rattle.stock_nums.specs.declared.entry.Row.{Row}
use Rattle.stock_nums.specs.declared.place.Spot.{Spot}
use Rattle.stock_model.proofs.Pairwise.{Precedes, Pairwise, Each, Each-from_Precedes, Contains-cases, Contains-first, Contains-later}
use Rattle.stock_keeper.specs.Worths.{is_same_spot, AreInOrder, put}
use Rattle.stock_keeper.specs.declared.changes.SpotWorth.{SpotWorth}
use Rattle.stock_keeper.proofs.SpotOrder.{same-from_test}
use Rattle.repost_laws.proofs.Spreading.{Each-Contains}
use Rattle.kept_tables.specs.Differences.{worth_at}
use Rattle.kept_tables.specs.TablesOf.{spot_of, spot_worth, worths_of}
use Rattle.kept_tables.proofs.WorthsAt.{test-refl, worth_at-put, AreInOrder-fold, AreInOrder-nil}

-- the spot of a row
abbrev pub row_spot : Row → Spot
row_spot row = spot_of row.entry.place

-- the row is of another spot
abbrev pub IsElsewhere : Spot → Row → Type 0
IsElsewhere s row = is_same_spot (row_spot row) s ≡ false

-- the second row is of another spot than the first
abbrev pub HasOtherSpot : Row → Row → Type 0
HasOtherSpot a b = IsElsewhere (row_spot a) b

-- rows of other spots change nothing at a spot
pub fold-elsewhere : (ws : List SpotWorth) (rows : List Row) (s : Spot) → Each (IsElsewhere s) rows
    → worth_at (fold put ws (map spot_worth rows)) s ≡ worth_at ws s
fold-elsewhere ws [] s others = refl
fold-elsewhere ws (row ∷ rows) s others =
    fold-elsewhere (put ws (spot_worth row)) rows s others.1 ∙ worth_at-put ws (spot_worth row) s
    ∙ ap (λ (b : Bool). cond b (Some row.worth) (worth_at ws s)) others.0

-- a row before others of other spots stands at its own
first-held : (ws : List SpotWorth) (row : Row) (rows : List Row) → Precedes HasOtherSpot row rows
    → worth_at (fold put ws (map spot_worth (row ∷ rows))) (row_spot row) ≡ Some row.worth
first-held ws row rows others =
    fold-elsewhere (put ws (spot_worth row)) rows (row_spot row) (Each-from_Precedes HasOtherSpot row rows others)
    ∙ worth_at-put ws (spot_worth row) (row_spot row)
    ∙ ap (λ (b : Bool). cond b (Some row.worth) (worth_at ws (row_spot row))) (test-refl (row_spot row))

-- and so does each row of rows of different spots
pub fold-held : (ws : List SpotWorth) (rows : List Row) (row : Row) → Pairwise HasOtherSpot rows → Contains rows row
    → worth_at (fold put ws (map spot_worth rows)) (row_spot row) ≡ Some row.worth
fold-held ws [] row own held = absurd (omega (arith, held.1))
fold-held ws (first ∷ rows) row own held =
    elim (Contains-cases first rows row held) [
      | inl same ↦ subst (λ (r : Row). worth_at (fold put ws (map spot_worth (first ∷ rows))) (row_spot r) ≡ Some r.worth) same
          (first-held ws first rows own.0)
      | inr later ↦ fold-held (put ws (spot_worth first)) rows row own.1 later
    ]

-- one of the rows is of the spot
pub record HasAt (rows : List Row) (s : Spot) : Type 0 where
  pub row : Row
  pub held : Contains rows row
  pub at : row_spot row ≡ s

-- or none is
pub held_or_elsewhere : (rows : List Row) (s : Spot) → HasAt rows s ⊎ Each (IsElsewhere s) rows
held_or_elsewhere [] s = inr tt
held_or_elsewhere (row ∷ rows) s = by_test (is_same_spot (row_spot row) s) refl (held_or_elsewhere rows s)
  where
    by_test : (b : Bool) → is_same_spot (row_spot row) s ≡ b → HasAt rows s ⊎ Each (IsElsewhere s) rows
        → HasAt (row ∷ rows) s ⊎ Each (IsElsewhere s) (row ∷ rows)
    by_test true is rest = inl (record { row = row; held = Contains-first row rows; at = same-from_test (row_spot row) s is })
    by_test false is (inl has) = inl (record { row = has.row; held = Contains-later row rows has.row has.held; at = has.at })
    by_test false is (inr others) = inr (is, others)

-- and not both
pub not_elsewhere : (rows : List Row) (s : Spot) → HasAt rows s → Each (IsElsewhere s) rows → ⊥
not_elsewhere rows s has others =
    false≢true (sym (Each-Contains (IsElsewhere s) rows has.row others has.held)
    ∙ subst (λ (t : Spot). is_same_spot (row_spot has.row) t ≡ true) has.at (test-refl (row_spot has.row)))

pub AreInOrder-worths_of : (rows : List Row) → AreInOrder (worths_of rows)
AreInOrder-worths_of rows = AreInOrder-fold [] (map spot_worth rows) AreInOrder-nil
