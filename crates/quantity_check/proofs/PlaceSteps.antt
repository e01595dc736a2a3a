-- Steps along places: of one place to a second, and of that to a third.
use Rattle.std.proofs.Common.{◌≡◌, Bool, true, false, inl, inr, refl, sym, ◌∙◌, subst}
use Rattle.std.proofs.lemmas.Bool.{false≢true}
use Rattle.stock_nums.specs.Places.{is_before}
use Rattle.stock_nums.specs.declared.place.Place.{Place}
use Rattle.stock_nums.proofs.PlaceOrder.{is_before-transitive, is_before-total}

-- what is not true is false
pub false_from_never : (b : Bool) → (b ≡ true → ⊥) → b ≡ false
false_from_never true never = absurd (never refl)
false_from_never false never = refl

-- what is never false is true
pub true_from_never : (b : Bool) → (b ≡ false → ⊥) → b ≡ true
true_from_never true never = refl
true_from_never false never = absurd (never refl)

-- a place that comes before a second, which does not come after a third, comes before the third
pub before_not_after : (p q r : Place) → is_before p q ≡ true → is_before r q ≡ false → is_before p r ≡ true
before_not_after p q r before not_after =
    elim (is_before-total q r) [
      | inl h ↦ is_before-transitive p q r before h
      | inr h ↦ elim h [
        | inl k ↦ absurd (false≢true (sym not_after ∙ k))
        | inr same ↦ subst (λ (x : Place). is_before p x ≡ true) same before
      ]
    ]

-- a place that does not come after a second, which comes before a third, comes before the third
pub not_after_before : (p q r : Place) → is_before q p ≡ false → is_before q r ≡ true → is_before p r ≡ true
not_after_before p q r not_after before =
    elim (is_before-total p q) [
      | inl h ↦ is_before-transitive p q r h before
      | inr h ↦ elim h [
        | inl k ↦ absurd (false≢true (sym not_after ∙ k))
        | inr same ↦ subst (λ (x : Place). is_before x r ≡ true) (sym same) before
      ]
    ]

-- a place that does not come after a second, which does not come after a third, does not come after the third
pub not_after_not_after : (p q r : Place) → is_before q p ≡ false → is_before r q ≡ false → is_before r p ≡ false
not_after_not_after p q r first second =
    false_from_never (is_before r p) (λ h. false≢true (sym second ∙ before_not_after r p q h first))

-- of two places the first of which does not come after the second, and which are not one, it comes before it
pub before_apart : (p q : Place) → is_before q p ≡ false → (p ≡ q → ⊥) → is_before p q ≡ true
before_apart p q not_after apart =
    elim (is_before-total p q) [
      | inl h ↦ h
      | inr h ↦ elim h [ inl k ↦ absurd (false≢true (sym not_after ∙ k)) | inr same ↦ absurd (apart same) ]
    ]
