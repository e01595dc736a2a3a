-- How rows that hold worths hold them with one put in, or with those at a spot taken out.
use Rattle.std.proofs.Common.{◌≡◌, ◌⊎◌, ℕ, ℤ, Bool, true, false, not, ◌&&◌, ◌==◌, cond, List, [], ◌∷◌, inl, inr, refl, sym, ap, ◌∙◌, subst, arith, true≢false}
use Rattle.std.specs.Prelude.{◌≢◌}
use Rattle.std.proofs.lemmas.Bool.{not-true}
use Rattle.std.proofs.lemmas.Bool.Decides.{nat_tests}
use Rattle.std.proofs.lemmas.List.Kept.{AllPairs-filter}
use Rattle.sqlite_value.specs.declared.value.Value.TheVariants.{Int}
use Rattle.sqlite_value.specs.Order.{Row, column}
use Rattle.sqlite_trees.specs.Tree.{IsTable}
use Rattle.sqlite_rules.specs.Lists.{Has}
use Rattle.sqlite_rules.proofs.ListLemmas.{has_filtered, has_kept}
use Rattle.stock_nums.specs.Places.{side_rank}
use Rattle.stock_nums.specs.declared.place.Spot.{Spot}
use Rattle.stock_keeper.specs.declared.changes.SpotWorth.{SpotWorth}
use Rattle.stock_keeper.specs.Worths.{is_spot_before, is_same_spot, is_among, IsBefore, AreInOrder, put, without}
use Rattle.stock_keeper.proofs.Pairs.{Precedes, Pairwise, Pairwise-from_AllPairs}
use Rattle.stock_keeper.proofs.Putting.{AreInOrder-put}
use Rattle.stock_keeper.proofs.SpotOrder.{irreflexive, transitive, same-from_test, same-from_neither}
use Rattle.sqlite_tables.specs.Rows.{spot_row, worth_row, spot_cells, worth_cells}
use Rattle.sqlite_tables.specs.Standing.{HoldsWorths}

-- spots of one row are one
pub spot_row-same : (a b : Spot) → spot_row a ≡ spot_row b → a ≡ b
spot_row-same a b h =
    let voucher : a.voucher.0 ≡ b.voucher.0 = cc in
    let line : a.line ≡ b.line = cc in
    let side : side_rank a.side ≡ side_rank b.side = cc in
    same-from_test a b (tests a.voucher.0 b.voucher.0 a.line b.line (side_rank a.side) (side_rank b.side) voucher line side)
  where
    tests : (k l m n p q : ℕ) → k ≡ l → m ≡ n → p ≡ q → ((k == l) && ((m == n) && (p == q))) ≡ true
    tests k l m n p q e f g = grind (arith, nat_tests)

pub spot_of_cells : (r : Row) (w : SpotWorth) → worth_cells r ≡ worth_row w → spot_cells r ≡ spot_row w.spot
spot_of_cells r w h = cc

-- ---- members of worths with one put in

precedes_has : (v : SpotWorth) (vs : List SpotWorth) (u : SpotWorth) → Precedes IsBefore v vs → Has vs u → IsBefore v u
precedes_has v [] u h there = absurd there
precedes_has v (x ∷ vs) u h (inl same) = subst (IsBefore v) (sym same) h.0
precedes_has v (x ∷ vs) u h (inr later) = precedes_has v vs u h.1 later

-- what stands before another is not at its spot
before_other : (a b : Spot) → is_spot_before a b ≡ true → a ≢ b
before_other a b before same = true≢false (sym before ∙ ap (λ s. is_spot_before s b) same ∙ irreflexive b)

pub has_put : (vs : List SpotWorth) (w : SpotWorth) → Has (put vs w) w
has_put [] w = inl refl
has_put (v ∷ vs) w =
    elim (is_spot_before v.spot w.spot) as (λ b. Has (cond b (v ∷ put vs w) (cond (is_spot_before w.spot v.spot) (w ∷ v ∷ vs) (w ∷ vs))) w) [
      | true ↦ inr (has_put vs w)
      | false ↦ elim (is_spot_before w.spot v.spot) as (λ b. Has (cond b (w ∷ v ∷ vs) (w ∷ vs)) w) [ true ↦ inl refl | false ↦ inl refl ]
    ]

pub put_keeps : (vs : List SpotWorth) (w u : SpotWorth) → Has vs u → u.spot ≢ w.spot → Has (put vs w) u
put_keeps [] w u h other = absurd h
put_keeps (v ∷ vs) w u h other = by_first (is_spot_before v.spot w.spot) refl h (λ later. put_keeps vs w u later other)
  where
    by_second : (b : Bool) → is_spot_before w.spot v.spot ≡ b → is_spot_before v.spot w.spot ≡ false → Has (v ∷ vs) u → Has (cond b (w ∷ v ∷ vs) (w ∷ vs)) u
    by_second true is not_before here = inr here
    by_second false is not_before (inl same) = absurd (other (ap (λ (x : SpotWorth). x.spot) same ∙ same-from_neither v.spot w.spot not_before is))
    by_second false is not_before (inr later) = inr later

    by_first : (b : Bool) → is_spot_before v.spot w.spot ≡ b → Has (v ∷ vs) u → (Has vs u → Has (put vs w) u)
        → Has (cond b (v ∷ put vs w) (cond (is_spot_before w.spot v.spot) (w ∷ v ∷ vs) (w ∷ vs))) u
    by_first true is (inl same) later = inl same
    by_first true is (inr there) later = inr (later there)
    by_first false is here later = by_second (is_spot_before w.spot v.spot) refl is here

-- what is there is the new one, or was there at another spot
put_has_of : (vs : List SpotWorth) (w u : SpotWorth) → Pairwise IsBefore vs → Has (put vs w) u → (u ≡ w) ⊎ (Has vs u × (u.spot ≢ w.spot))
put_has_of [] w u order (inl same) = inl same
put_has_of [] w u order (inr none) = absurd none
put_has_of (v ∷ vs) w u order h = by_first (is_spot_before v.spot w.spot) refl h (put_has_of vs w u order.1)
  where
    -- what stands after w is at another spot
    behind : (x : SpotWorth) → IsBefore w x → x.spot ≢ w.spot
    behind x before same = before_other w.spot x.spot before (sym same)

    by_second : (b : Bool) → is_spot_before w.spot v.spot ≡ b → is_spot_before v.spot w.spot ≡ false → Has (cond b (w ∷ v ∷ vs) (w ∷ vs)) u → (u ≡ w) ⊎ (Has (v ∷ vs) u × (u.spot ≢ w.spot))
    by_second true is not_before (inl same) = inl same
    by_second true is not_before (inr (inl same)) = inr (inl same, λ e. behind v is (ap (λ (x : SpotWorth). x.spot) (sym same) ∙ e))
    by_second true is not_before (inr (inr later)) = inr (inr later, behind u (transitive w.spot v.spot u.spot is (precedes_has v vs u order.0 later)))
    by_second false is not_before (inl same) = inl same
    by_second false is not_before (inr later) =
        let one = same-from_neither v.spot w.spot not_before is in
        inr (inr later, behind u (subst (λ (s : Spot). is_spot_before s u.spot ≡ true) one (precedes_has v vs u order.0 later)))

    by_first : (b : Bool) → is_spot_before v.spot w.spot ≡ b → Has (cond b (v ∷ put vs w) (cond (is_spot_before w.spot v.spot) (w ∷ v ∷ vs) (w ∷ vs))) u
        → (Has (put vs w) u → (u ≡ w) ⊎ (Has vs u × (u.spot ≢ w.spot))) → (u ≡ w) ⊎ (Has (v ∷ vs) u × (u.spot ≢ w.spot))
    by_first true is (inl same) later = inr (inl same, λ e. before_other v.spot w.spot is (ap (λ (x : SpotWorth). x.spot) (sym same) ∙ e))
    by_first true is (inr there) later = elim (later there) [ inl new ↦ inl new | inr was ↦ inr (inr was.0, was.1) ]
    by_first false is here later = by_second (is_spot_before w.spot v.spot) refl is here

pub put_has : (vs : List SpotWorth) (w u : SpotWorth) → AreInOrder vs → Has (put vs w) u → (u ≡ w) ⊎ (Has vs u × (u.spot ≢ w.spot))
put_has vs w u order = put_has_of vs w u (Pairwise-from_AllPairs IsBefore vs order)

-- ---- members of worths without those at one spot

-- a spot is the same as itself
test-refl : (a : Spot) → is_same_spot a a ≡ true
test-refl a = grind (arith, nat_tests)

without_has : (vs : List SpotWorth) (s : Spot) (u : SpotWorth) → Has (without (s ∷ []) vs) u → Has vs u × (u.spot ≢ s)
without_has vs s u h =
    let was = has_filtered (λ (w : SpotWorth). not (is_among (s ∷ []) w.spot)) vs u h in
    (was.0, λ same. true≢false (sym (or_from_same (sym same)) ∙ not-true _ was.1))
  where
    or_from_same : s ≡ u.spot → is_among (s ∷ []) u.spot ≡ true
    or_from_same same = subst (λ (x : Spot). is_among (s ∷ []) x ≡ true) same (rw (test-refl s) refl)

without_keeps : (vs : List SpotWorth) (s : Spot) (u : SpotWorth) → Has vs u → u.spot ≢ s → Has (without (s ∷ []) vs) u
without_keeps vs s u h other = has_kept (λ (w : SpotWorth). not (is_among (s ∷ []) w.spot)) vs u h (go (is_same_spot s u.spot) refl)
  where
    go : (b : Bool) → is_same_spot s u.spot ≡ b → not (is_among (s ∷ []) u.spot) ≡ true
    go true is = absurd (other (sym (same-from_test s u.spot is)))
    go false is = rw is refl

-- ---- rows that hold them

module _ (rows after : List Row) (ws : List SpotWorth) (holds : HoldsWorths rows ws) (rises : IsTable after) where
  pub holds_put : (w : SpotWorth) (n : Row) (id : ℤ) → worth_cells n ≡ worth_row w → column n 0 ≡ Int id → Has after n
      → ((x : Row) → Has after x → (x ≡ n) ⊎ (Has rows x × (spot_cells x ≢ spot_row w.spot)))
      → ((x : Row) → Has rows x → spot_cells x ≢ spot_row w.spot → Has after x) → HoldsWorths after (put ws w)
  holds_put w n id cells keyed there are kept = record {
    rises = rises;
    rows_are = λ r h. elim (are r h) [
      | inl new ↦ (w, id, has_put ws w, rw new cells, rw new keyed)
      | inr was ↦ let it = holds.rows_are r was.0 in
          (it.0, it.1, put_keeps ws w it.0 it.2 (λ same. was.1 (spot_of_cells r it.0 it.3 ∙ ap spot_row same)), it.3, it.4)
    ];
    worths_are = λ v h. elim (put_has ws w v holds.in_order h) [
      | inl new ↦ (n, there, rw new cells)
      | inr was ↦ let it = holds.worths_are v was.0 in
          (it.0, kept it.0 it.1 (λ same. was.1 (spot_row-same v.spot w.spot (sym (spot_of_cells it.0 v it.2) ∙ same))), it.2)
    ];
    apart = λ r s h k same. elim (are r h) [
      | inl new ↦ elim (are s k) [
        | inl also ↦ new ∙ sym also
        | inr was ↦ absurd (was.1 (sym same ∙ ap spot_cells new ∙ spot_of_cells n w cells))
      ]
      | inr old ↦ elim (are s k) [
        | inl new ↦ absurd (old.1 (same ∙ ap spot_cells new ∙ spot_of_cells n w cells))
        | inr was ↦ holds.apart r s old.0 was.0 same
      ]
    ];
    in_order = AreInOrder-put ws w holds.in_order;
  }

  pub holds_without : (s : Spot) → ((x : Row) → Has after x → Has rows x × (spot_cells x ≢ spot_row s))
      → ((x : Row) → Has rows x → spot_cells x ≢ spot_row s → Has after x) → HoldsWorths after (without (s ∷ []) ws)
  holds_without s are kept = record {
    rises = rises;
    rows_are = λ r h.
        let was = are r h in
        let it = holds.rows_are r was.0 in
        (it.0, it.1, without_keeps ws s it.0 it.2 (λ same. was.1 (spot_of_cells r it.0 it.3 ∙ ap spot_row same)), it.3, it.4);
    worths_are = λ v h.
        let was = without_has ws s v h in
        let it = holds.worths_are v was.0 in
        (it.0, kept it.0 it.1 (λ same. was.1 (spot_row-same v.spot s (sym (spot_of_cells it.0 v it.2) ∙ same))), it.2);
    apart = λ r q h k. holds.apart r q (are r h).0 (are q k).0;
    in_order = AllPairs-filter IsBefore (λ (w : SpotWorth). not (is_among (s ∷ []) w.spot)) ws holds.in_order;
  }
