-- A sorted list without ties is the one list of its members that rises.
use Rattle.std.proofs.Common.{◌≡◌, suc, ◌+◌, Bool, false, Ordering, Less, Equal, Greater, List, [], ◌∷◌, refl, sym, ap, ◌∙◌, subst, inl, inr, arith, true≢false}
use Rattle.std.specs.Cmp.{IsTotalOrder}
use Rattle.std.specs.List.{IsDistinct}
use Rattle.std.specs.List.Sorted.{IsPermutation, IsSorted, IsStrictlySortedBy}
use Rattle.std.specs.Ordering.{is_eq, is_lt, ordering_reverse}
use Rattle.std.proofs.lemmas.Cmp.{tied_itself}
use Rattle.std.proofs.lemmas.Map.Keys.{IsDistinct-IsPermutation}
use Rattle.sqlite_trees.proofs.ListLemmas.{all_weaker}
use Rattle.sqlite_rules.specs.Lists.{Has}
use Rattle.sqlite_rules.proofs.ListLemmas.{all_has}

is_eq-reverse : (o : Ordering) → is_eq (ordering_reverse o) ≡ is_eq o
is_eq-reverse Less = refl
is_eq-reverse Equal = refl
is_eq-reverse Greater = refl

-- neither above nor tied is below
below : (o p : Ordering) → o ≡ ordering_reverse p → is_lt p ≡ false → is_eq o ≡ false → o ≡ Less
below Less p back not_lower apart = refl
below Equal p back not_lower apart = absurd (true≢false apart)
below Greater Less back not_lower apart = absurd (true≢false not_lower)
below Greater Equal back not_lower apart = absurd cc
below Greater Greater back not_lower apart = absurd cc

module _ {X : Type 0} {R : X → X → Ordering} (total : IsTotalOrder R) where
  abbrev pub are_tied : X → X → Bool
  are_tied x y = is_eq (R x y)

  flips : (x y : X) → are_tied x y ≡ are_tied y x
  flips x y = ap is_eq (total.antisymm x y) ∙ is_eq-reverse (R y x)

  tail_sorted : (x : X) (xs : List X) → IsSorted R (x ∷ xs) → IsSorted R xs
  tail_sorted x xs h k d low within =
      let here : k + 1 ≡ suc k = omega arith in
      let there : suc k + 1 ≡ suc (suc k) = omega arith in
      rw here (rw there at (h (suc k) d (omega arith) (omega (arith, within))))

  strict : (xs : List X) → IsSorted R xs → IsDistinct are_tied xs → IsStrictlySortedBy R xs
  unfolding IsDistinct IsStrictlySortedBy
  strict [] sorted apart = tt
  strict (x ∷ []) sorted apart = (tt, tt)
  strict (x ∷ y ∷ xs) sorted apart =
      let more = strict (y ∷ xs) (tail_sorted x (y ∷ xs) sorted) apart.1 in
      let first : R x y ≡ Less = below (R x y) (R y x) (total.antisymm x y) (sorted 0 x (omega arith) (omega arith)) apart.0.0 in
      ((first, all_weaker (λ z. R y z ≡ Less) (λ z. R x z ≡ Less) (λ z next. total.trans x y z first next) xs more.0), more)

  never_itself : (x : X) → ¬ (R x x ≡ Less)
  never_itself x h = absurd (let e = tied_itself total x in cc)

  -- two lists that rise and have the same members are one
  pub same_members : (xs zs : List X) → IsStrictlySortedBy R xs → IsStrictlySortedBy R zs → ((v : X) → Has xs v → Has zs v) → ((v : X) → Has zs v → Has xs v) → xs ≡ zs
  unfolding IsStrictlySortedBy
  same_members [] [] up also into back = refl
  same_members [] (z ∷ zs) up also into back = absurd (back z (inl refl))
  same_members (x ∷ xs) [] up also into back = absurd (into x (inl refl))
  same_members (x ∷ xs) (z ∷ zs) up also into back =
      let head : x ≡ z = elim (into x (inl refl)) [
        | inl same ↦ same
        | inr later ↦ elim (back z (inl refl)) [
          | inl same ↦ sym same
          | inr earlier ↦ absurd (never_itself x (total.trans x z x (all_has (λ y. R x y ≡ Less) xs z up.0 earlier) (all_has (λ y. R z y ≡ Less) zs x also.0 later)))
        ]
      ] in
      let tail = same_members xs zs up.1 also.1
      (λ v h. elim (into v (inr h)) [
        | inl same ↦ absurd (never_itself x (subst (λ y. R x y ≡ Less) (same ∙ sym head) (all_has (λ y. R x y ≡ Less) xs v up.0 h)))
        | inr later ↦ later
      ])
      (λ v h. elim (back v (inr h)) [
        | inl same ↦ absurd (never_itself z (subst (λ y. R z y ≡ Less) (same ∙ head) (all_has (λ y. R z y ≡ Less) zs v also.0 h)))
        | inr later ↦ later
      ]) in
      rw head (ap (λ l. z ∷ l) tail)

  -- the sorted form of a list without ties rises
  pub sorted_rises : (xs ys : List X) → IsDistinct are_tied xs → IsPermutation xs ys → IsSorted R ys → IsStrictlySortedBy R ys
  sorted_rises xs ys apart same sorted = strict ys sorted (IsDistinct-IsPermutation are_tied flips xs ys same apart)

  pub rises_apart : (xs : List X) → IsStrictlySortedBy R xs → IsDistinct are_tied xs
  unfolding IsDistinct IsStrictlySortedBy
  rises_apart [] up = tt
  rises_apart (x ∷ xs) up = (all_weaker (λ y. R x y ≡ Less) (λ y. are_tied x y ≡ false) (λ y less. ap is_eq less) xs up.0, rises_apart xs up.1)
