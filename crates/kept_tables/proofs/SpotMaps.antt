-- The entries of a map by spots are worths in order, and one more is put in as among them.
use Rattle.std.proofs.Common.{◌≡◌, ℕ, ◌+◌, ◌<◌, Bool, true, false, cond, nat_lt, List, [], ◌∷◌, length, get_or, map, fold, take, inl, inr, refl, sym, ap, ◌∙◌, subst, arith}
use Rattle.std.specs.BTreeMap.{insert_entry}
use Rattle.std.specs.Cmp.{nat_cmp_is}
use Rattle.std.specs.Ordering.{nat_cmp, ordering_then, match_ordering}
use Rattle.std.specs.declared.cmp.Ordering.{Ordering}
use Rattle.std.specs.declared.cmp.Ordering.TheVariants.{Less, Equal, Greater}
use Rattle.std.proofs.lemmas.Bool.{cases_lt}
use Rattle.std.proofs.lemmas.Bool.Decides.{nat_tests}
use Rattle.std.proofs.lemmas.List.{map_more}
use Rattle.std.proofs.lemmas.List.Sums.{fold-append}
use Rattle.stock_nums.specs.Places.{first_by, side_rank}
use Rattle.stock_nums.specs.contracts.place.SideOrd.TheImpl as side_order
use Rattle.stock_nums.specs.contracts.place.SpotOrd.TheImpl as spot_order
use Rattle.stock_nums.specs.declared.entry.Row.{Row}
use Rattle.stock_nums.specs.declared.entry.Worth.{Worth}
use Rattle.stock_nums.specs.declared.place.Side.{Side}
use Rattle.stock_nums.specs.declared.place.Side.TheVariants.{Leaves, Enters}
use Rattle.stock_nums.specs.declared.place.Spot.{Spot}
use Rattle.stock_keeper.specs.Worths.{is_spot_before, put}
use Rattle.stock_keeper.specs.declared.changes.SpotWorth.{SpotWorth}
use Rattle.stock_keeper.proofs.SpotOrder.{same-from_neither}
use Rattle.kept_tables.specs.Differences.{entry_worth}
use Rattle.kept_tables.specs.TablesOf.{spot_worth, worths_of}

-- the order of spots in a map
abbrev pub spot_cmp : Spot → Spot → Ordering
spot_cmp = (spot_order.ghosts).cmp

-- what an ordering of two tells of whether the first comes before the second, and the second before the first
abbrev Tells : Ordering → Bool → Bool → Type 0
Tells Less x y = (x ≡ true) × (y ≡ false)
Tells Equal x y = (x ≡ false) × (y ≡ false)
Tells Greater x y = (x ≡ false) × (y ≡ true)

first_by-less : (a b : ℕ) (r : Bool) → a < b → first_by a b r ≡ true
first_by-less a b r less = grind (arith, nat_tests)

first_by-more : (a b : ℕ) (r : Bool) → b < a → first_by a b r ≡ false
first_by-more a b r more = grind (arith, nat_tests)

first_by-tie : (a b : ℕ) (r : Bool) → a ≡ b → r ≡ first_by a b r
first_by-tie a b r same = grind (arith, nat_tests)

-- by the side
tells-side : (a b : Side)
    → Tells ((side_order.ghosts).cmp a b) (nat_lt (side_rank a) (side_rank b)) (nat_lt (side_rank b) (side_rank a))
tells-side Leaves Leaves = (refl, refl)
tells-side Leaves Enters = (refl, refl)
tells-side Enters Leaves = (refl, refl)
tells-side Enters Enters = (refl, refl)

-- by a number, and then by the rest
tells-then : (a b : ℕ) (o : Ordering) (x y : Bool) → Tells o x y
    → Tells (ordering_then (nat_cmp a b) o) (first_by a b x) (first_by b a y)
tells-then a b o x y rest =
    elim (cases_lt a b) [
      | inl less ↦ subst (λ (first : Ordering). Tells (ordering_then first o) (first_by a b x) (first_by b a y))
          (nat_cmp_is a b Less less)
          (first_by-less a b x less, first_by-more b a y less)
      | inr not_less ↦ elim (cases_lt b a) [
        | inl more ↦ subst (λ (first : Ordering). Tells (ordering_then first o) (first_by a b x) (first_by b a y))
            (nat_cmp_is a b Greater more)
            (first_by-more a b x more, first_by-less b a y more)
        | inr not_more ↦
            let same : a ≡ b = omega arith in
            subst (λ (first : Ordering). Tells (ordering_then first o) (first_by a b x) (first_by b a y)) (nat_cmp_is a b Equal same)
            (subst (λ (v : Bool). Tells o v (first_by b a y)) (first_by-tie a b x same)
            (subst (Tells o x) (first_by-tie b a y (sym same)) rest))
      ]
    ]

-- the order in a map is that of worths
tells-spot : (a b : Spot) → Tells (spot_cmp a b) (is_spot_before a b) (is_spot_before b a)
tells-spot a b =
    tells-then a.voucher.0 b.voucher.0 _ _ _ (tells-then a.line b.line _ _ _ (tells-side a.side b.side))

-- an entry is put in as a worth is
put-entry : (es : List (Spot × Worth)) (own : SpotWorth)
    → map entry_worth (insert_entry spot_cmp es own.spot own.worth) ≡ put (map entry_worth es) own
put-entry [] own = refl
put-entry (e ∷ es) own = by_order (spot_cmp own.spot e.0) (tells-spot own.spot e.0) (put-entry es own)
  where
    by_order : (o : Ordering) → Tells o (is_spot_before own.spot e.0) (is_spot_before e.0 own.spot)
        → map entry_worth (insert_entry spot_cmp es own.spot own.worth) ≡ put (map entry_worth es) own
        → map entry_worth (match_ordering o ((own.spot, own.worth) ∷ e ∷ es) ((e.0, own.worth) ∷ es)
        (e ∷ insert_entry spot_cmp es own.spot own.worth))
        ≡ cond (is_spot_before e.0 own.spot) (entry_worth e ∷ put (map entry_worth es) own)
        (cond (is_spot_before own.spot e.0) (own ∷ entry_worth e ∷ map entry_worth es) (own ∷ map entry_worth es))
    by_order Less told rest = rw (told.1, told.0) refl
    by_order Equal told rest =
        let same : e.0 ≡ own.spot = same-from_neither e.0 own.spot told.1 told.0 in
        rw (told.1, told.0) (ap (λ (s : Spot). record { spot = s; worth = own.worth } ∷ map entry_worth es) same)
    by_order Greater told rest = rw told.1 (ap (λ (ws : List SpotWorth). entry_worth e ∷ ws) rest)

-- the worths of one more row
worths_of-more : (rows : List Row) (i : ℕ) (row : Row) → i < length rows → row ≡ get_or rows i row
    → worths_of (take (i + 1) rows) ≡ put (worths_of (take i rows)) (spot_worth row)
worths_of-more rows i row within is =
    ap (fold put []) (map_more spot_worth rows i row within)
    ∙ fold-append put [] (map spot_worth (take i rows)) (spot_worth (get_or rows i row) ∷ [])
    ∙ ap (λ (r : Row). put (worths_of (take i rows)) (spot_worth r)) (sym is)

-- so the entries with those of one more row are its worths
pub entries-more : (rows : List Row) (i : ℕ) (row : Row) (own : SpotWorth) (old new : List (Spot × Worth))
    → i < length rows → row ≡ get_or rows i row
    → own ≡ spot_worth row → map entry_worth old ≡ worths_of (take i rows)
    → new ≡ insert_entry spot_cmp old own.spot own.worth
    → map entry_worth new ≡ worths_of (take (i + 1) rows)
entries-more rows i row own old new within is own_is so_far inserted =
    ap (map entry_worth) inserted ∙ put-entry old own ∙ ap (λ (ws : List SpotWorth). put ws own) so_far
    ∙ ap (put (worths_of (take i rows))) own_is ∙ sym (worths_of-more rows i row within is)
