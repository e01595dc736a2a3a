-- The test of whether two places are one, beside posting order.
use Rattle.std.proofs.Common.{◌≡◌, true, false, sym, ◌∙◌, subst, arith}
use Rattle.std.proofs.lemmas.Bool.{false≢true}
use Rattle.std.proofs.lemmas.Bool.Decides.{nat_tests}
use Rattle.stock_nums.specs.Places.{is_before}
use Rattle.stock_nums.specs.declared.place.Place.{Place}
use Rattle.stock_nums.proofs.PlaceOrder.{is_before-irreflexive, Place-same}
use Rattle.key_order.specs.SamePlace.{is_same_place}
use Rattle.key_order.proofs.KeyOrdering.{false-unless}

-- the test tells the same places
pub is_same_place-true : (p q : Place) → is_same_place p q ≡ true → p ≡ q
is_same_place-true p q h = Place-same p q (grind (arith, nat_tests))

-- a place is the same as itself
pub is_same_place-refl : (p : Place) → is_same_place p p ≡ true
is_same_place-refl p = grind (arith, nat_tests)

-- a place that comes before a second is another
pub is_same_place-before : (p q : Place) → is_before p q ≡ true → is_same_place p q ≡ false
is_same_place-before p q before =
    false-unless (is_same_place p q)
    (λ same. false≢true
    (sym (is_before-irreflexive q) ∙ subst (λ (r : Place). is_before r q ≡ true) (is_same_place-true p q same) before))

-- a place that comes after a second is another
pub is_same_place-after : (p q : Place) → is_before q p ≡ true → is_same_place p q ≡ false
is_same_place-after p q after =
    false-unless (is_same_place p q)
    (λ same. false≢true
    (sym (is_before-irreflexive p) ∙ subst (λ (r : Place). is_before r p ≡ true) (sym (is_same_place-true p q same)) after))
