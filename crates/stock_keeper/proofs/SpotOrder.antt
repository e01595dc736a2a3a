-- Spots are in a strict total order.
use Rattle.std.proofs.Common.{◌≡◌, ℕ, ◌⊎◌, Bool, true, false, nat_lt, inl, inr, refl, sym, ap, ◌∙◌, subst, arith}
use Rattle.std.proofs.lemmas.Bool.{false≢true}
use Rattle.std.proofs.lemmas.Bool.Decides.{nat_tests}
use Rattle.stock_nums.specs.Places.{first_by, side_rank}
use Rattle.stock_nums.specs.declared.place.Side.{Side}
use Rattle.stock_nums.specs.declared.place.Side.TheVariants.{Leaves, Enters}
use Rattle.stock_nums.specs.declared.place.Spot.{Spot}
use Rattle.stock_keeper.specs.Worths.{is_spot_before, is_same_spot}

-- nothing comes before its like by a number and then by what cannot come before itself
first_by-irreflexive : (a : ℕ) (rest : Bool) → rest ≡ false → first_by a a rest ≡ false
first_by-irreflexive a rest h = grind (arith, nat_tests)

-- comparing by a number and then by what is transitive is transitive
first_by-transitive : (a b c : ℕ) (r s t : Bool) → (r ≡ true → s ≡ true → t ≡ true) → first_by a b r ≡ true → first_by b c s ≡ true → first_by a c t ≡ true
first_by-transitive a b c r s t rest h k = grind (arith, nat_tests)

-- of two numbers one comes first, or they tie and the rest decides
first_by-total : (P : Type 0) (a b : ℕ) (r s : Bool) → (r ≡ true) ⊎ (s ≡ true) ⊎ P → (first_by a b r ≡ true) ⊎ (first_by b a s ≡ true) ⊎ ((a ≡ b) × P)
first_by-total P a b r s rest = grind (arith, nat_tests)

nat_lt-irreflexive : (a : ℕ) → nat_lt a a ≡ false
nat_lt-irreflexive a = grind (arith, nat_tests)

nat_lt-transitive : (a b c : ℕ) → nat_lt a b ≡ true → nat_lt b c ≡ true → nat_lt a c ≡ true
nat_lt-transitive a b c h k = grind (arith, nat_tests)

nat_lt-total : (a b : ℕ) → (nat_lt a b ≡ true) ⊎ (nat_lt b a ≡ true) ⊎ (a ≡ b)
nat_lt-total a b = grind (arith, nat_tests)

-- a spot does not come before itself
pub irreflexive : (a : Spot) → is_spot_before a a ≡ false
irreflexive a =
    first_by-irreflexive a.voucher.0 _ (first_by-irreflexive a.line _ (nat_lt-irreflexive (side_rank a.side)))

-- what comes before a spot comes before each later one
pub transitive : (a b c : Spot) → is_spot_before a b ≡ true → is_spot_before b c ≡ true → is_spot_before a c ≡ true
transitive a b c =
    first_by-transitive a.voucher.0 b.voucher.0 c.voucher.0 _ _ _
    (first_by-transitive a.line b.line c.line _ _ _ (nat_lt-transitive (side_rank a.side) (side_rank b.side) (side_rank c.side)))

-- the two sides have different ranks
side_rank-same : (a b : Side) → side_rank a ≡ side_rank b → a ≡ b
side_rank-same Leaves Leaves h = refl
side_rank-same Leaves Enters h = absurd (omega arith)
side_rank-same Enters Leaves h = absurd (omega arith)
side_rank-same Enters Enters h = refl

-- spots of equal parts are one
spot-same : (a b : Spot) → (a.voucher.0 ≡ b.voucher.0) × ((a.line ≡ b.line) × (side_rank a.side ≡ side_rank b.side)) → a ≡ b
spot-same a b (voucher, (line, side)) =
    let of : ℕ → ℕ → Side → Spot = λ v l s. record { voucher = record { 0 = v }; line = l; side = s } in
    ap (λ (v : ℕ). of v a.line a.side) voucher ∙ ap (λ (l : ℕ). of b.voucher.0 l a.side) line ∙ ap (λ (s : Side). of b.voucher.0 b.line s) (side_rank-same a.side b.side side)

third_case : {A B C D : Type 0} → (C → D) → A ⊎ B ⊎ C → A ⊎ B ⊎ D
third_case f h = grind arith

-- of two spots one comes before the other, or they are one
pub total : (a b : Spot) → (is_spot_before a b ≡ true) ⊎ (is_spot_before b a ≡ true) ⊎ (a ≡ b)
total a b =
    third_case (spot-same a b)
    (first_by-total _ a.voucher.0 b.voucher.0 _ _ (first_by-total _ a.line b.line _ _ (nat_lt-total (side_rank a.side) (side_rank b.side))))

-- the test tells the same spots
pub same-from_test : (a b : Spot) → is_same_spot a b ≡ true → a ≡ b
same-from_test a b h = spot-same a b (grind (arith, nat_tests))

-- a spot is the same as itself
test-refl : (a : Spot) → is_same_spot a a ≡ true
test-refl a = grind (arith, nat_tests)

-- what is another spot and does not come before comes after
pub after-other : (a b : Spot) → is_same_spot a b ≡ false → is_spot_before a b ≡ false → is_spot_before b a ≡ true
after-other a b other not_before =
    elim (total a b) [
      | inl h ↦ absurd (false≢true (sym not_before ∙ h))
      | inr h ↦ elim h [
        | inl k ↦ k
        | inr same ↦ absurd (false≢true (sym other ∙ subst (λ (s : Spot). is_same_spot a s ≡ true) same (test-refl a)))
      ]
    ]

-- of two spots of which none comes before the other there is one
pub same-from_neither : (a b : Spot) → is_spot_before a b ≡ false → is_spot_before b a ≡ false → a ≡ b
same-from_neither a b h k =
    elim (total a b) [
      | inl before ↦ absurd (false≢true (sym h ∙ before))
      | inr rest ↦ elim rest [
        | inl after ↦ absurd (false≢true (sym k ∙ after))
        | inr same ↦ same
      ]
    ]

-- the same spot comes neither before nor after
pub neither-from_test : (a b : Spot) → is_same_spot a b ≡ true → (is_spot_before a b ≡ false) × (is_spot_before b a ≡ false)
neither-from_test a b h =
    let same = same-from_test a b h in (
      subst (λ (s : Spot). is_spot_before a s ≡ false) same (irreflexive a),
      subst (λ (s : Spot). is_spot_before s a ≡ false) same (irreflexive a),
    )
