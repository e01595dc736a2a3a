-- Lists that are filtered twice, and what a filter does not change.
use Rattle.std.proofs.Common.{◌≡◌, Bool, true, false, cond, ◌&&◌, ◌||◌, not, List, [], ◌∷◌, ◌++◌, filter, reverse, Some, inl, inr, refl, sym, ap, ◌∙◌, subst, arith, Contains, ◌⊎◌}
use Rattle.std.specs.List.{find, list_any}
use Rattle.std.specs.Option.{option_map_or}
use Rattle.std.proofs.lemmas.Bool.{false≢true}
use Rattle.std.proofs.lemmas.List.{append-nil, reverse-append}
use Rattle.std.proofs.lemmas.List.Elements.{filter-append}
use Rattle.stock_model.proofs.Pairwise.{Contains-cases, Contains-first, Contains-later}

-- where one or the other is false, both are
pub or_false : (a b : Bool) → (a || b) ≡ false → (a ≡ false) × (b ≡ false)
or_false true b h = absurd (false≢true (sym h))
or_false false b h = (refl, h)

module _ {X : Type 0} where
  -- a filter by both tests is a filter by the one and then by the other
  pub filter-both : (p q : X → Bool) (xs : List X) → filter (λ x. p x && q x) xs ≡ filter q (filter p xs)
  filter-both p q [] = refl
  filter-both p q (x ∷ xs) =
      elim (p x) as (λ b. cond (b && q x) (x ∷ filter (λ y. p y && q y) xs) (filter (λ y. p y && q y) xs)
      ≡ filter q (cond b (x ∷ filter p xs) (filter p xs))) [
        | true ↦ ap (λ (ys : List X). cond (q x) (x ∷ ys) ys) (filter-both p q xs)
        | false ↦ filter-both p q xs
      ]

  -- the order of two filters does not matter
  pub filter-swap : (p q : X → Bool) (xs : List X) → filter p (filter q xs) ≡ filter q (filter p xs)
  filter-swap p q [] = refl
  filter-swap p q (x ∷ xs) = by_cases (p x) refl (q x) refl (filter-swap p q xs)
    where
      by_cases : (b : Bool) → p x ≡ b → (c : Bool) → q x ≡ c → filter p (filter q xs) ≡ filter q (filter p xs)
          → filter p (cond c (x ∷ filter q xs) (filter q xs)) ≡ filter q (cond b (x ∷ filter p xs) (filter p xs))
      by_cases true is true has rest =
          ap (λ (v : Bool). cond v (x ∷ filter p (filter q xs)) (filter p (filter q xs))) is ∙ ap (λ (ys : List X). x ∷ ys) rest
          ∙ sym (ap (λ (v : Bool). cond v (x ∷ filter q (filter p xs)) (filter q (filter p xs))) has)
      by_cases true is false has rest =
          rest ∙ sym (ap (λ (v : Bool). cond v (x ∷ filter q (filter p xs)) (filter q (filter p xs))) has)
      by_cases false is true has rest =
          ap (λ (v : Bool). cond v (x ∷ filter p (filter q xs)) (filter p (filter q xs))) is ∙ rest
      by_cases false is false has rest = rest

  -- where none passes, a filter by the opposite keeps all
  pub filter-none_passes : (test : X → Bool) (xs : List X) → list_any test xs ≡ false → filter (λ x. not (test x)) xs ≡ xs
  filter-none_passes test [] none = refl
  filter-none_passes test (x ∷ xs) none = by_cases (test x) none (filter-none_passes test xs)
    where
      by_cases : (b : Bool) → (b || list_any test xs) ≡ false → (list_any test xs ≡ false → filter (λ y. not (test y)) xs ≡ xs)
          → cond (not b) (x ∷ filter (λ y. not (test y)) xs) (filter (λ y. not (test y)) xs) ≡ x ∷ xs
      by_cases true h rest = absurd (false≢true (sym h))
      by_cases false h rest = ap (λ (ys : List X). x ∷ ys) (rest h)

  -- so where none of those that pass one test passes another, those that do not pass that other may go
  pub filter-untouched : (test p : X → Bool) (xs : List X) → list_any test (filter p xs) ≡ false
      → filter p (filter (λ x. not (test x)) xs) ≡ filter p xs
  filter-untouched test p xs none = filter-swap p (λ x. not (test x)) xs ∙ filter-none_passes test (filter p xs) none

  pub filter-reverse : (p : X → Bool) (xs : List X) → reverse (filter p xs) ≡ filter p (reverse xs)
  filter-reverse p [] = refl
  filter-reverse p (x ∷ xs) =
      elim (p x) as (λ b. reverse (cond b (x ∷ filter p xs) (filter p xs)) ≡ filter p (reverse xs) ++ cond b (x ∷ []) []) [
        | true ↦ reverse-append (x ∷ []) (filter p xs) ∙ ap (λ (ys : List X). ys ++ x ∷ []) (filter-reverse p xs)
        | false ↦ filter-reverse p xs ∙ sym (append-nil (filter p (reverse xs)))
      ]
      ∙ sym (ap (filter p) (reverse-append (x ∷ []) xs) ∙ filter-append p (reverse xs) (x ∷ []))

  -- what is found stays where it does not go
  pub find-untouched : (test p : X → Bool) (xs : List X) → option_map_or test (find p xs) false ≡ false
      → find p (filter (λ x. not (test x)) xs) ≡ find p xs
  find-untouched test p [] none = refl
  find-untouched test p (x ∷ xs) none = by_cases (test x) (p x) refl none refl (find-untouched test p xs)
    where
      by_cases : (c b : Bool) → test x ≡ c → option_map_or test (cond b (Some x) (find p xs)) false ≡ false → p x ≡ b
          → (option_map_or test (find p xs) false ≡ false → find p (filter (λ y. not (test y)) xs) ≡ find p xs)
          → find p (cond (not c) (x ∷ filter (λ y. not (test y)) xs) (filter (λ y. not (test y)) xs))
          ≡ cond b (Some x) (find p xs)
      by_cases true true is h has rest = absurd (false≢true (sym h ∙ is))
      by_cases true false is h has rest = rest h
      by_cases false true is h has rest = ap (λ (b : Bool). cond b (Some x) (find p (filter (λ y. not (test y)) xs))) has
      by_cases false false is h has rest = ap (λ (b : Bool). cond b (Some x) (find p (filter (λ y. not (test y)) xs))) has
          ∙ rest h

  -- an element of a filtered list is one of the list, and passes
  pub Contains-filtered : (p : X → Bool) (xs : List X) (x : X) → Contains (filter p xs) x → Contains xs x × (p x ≡ true)
  Contains-filtered p [] x held = absurd (omega (arith, held.1))
  Contains-filtered p (y ∷ xs) x held = by_cases (p y) refl held (Contains-filtered p xs x)
    where
      by_cases : (b : Bool) → p y ≡ b → Contains (cond b (y ∷ filter p xs) (filter p xs)) x
          → (Contains (filter p xs) x → Contains xs x × (p x ≡ true))
          → Contains (y ∷ xs) x × (p x ≡ true)
      by_cases true is held rest = elim (Contains-cases y (filter p xs) x held) [
        | inl same ↦ (subst (Contains (y ∷ xs)) same (Contains-first y xs), subst (λ (z : X). p z ≡ true) same is)
        | inr later ↦ (Contains-later y xs x (rest later).0, (rest later).1)
      ]
      by_cases false is held rest = (Contains-later y xs x (rest held).0, (rest held).1)

  pub Contains-filter : (p : X → Bool) (xs : List X) (x : X) → Contains xs x → p x ≡ true → Contains (filter p xs) x
  Contains-filter p [] x held passes = absurd (omega (arith, held.1))
  Contains-filter p (y ∷ xs) x held passes = by_cases (p y) refl (Contains-cases y xs x held)
      (λ later. Contains-filter p xs x later passes)
    where
      by_cases : (b : Bool) → p y ≡ b → (y ≡ x) ⊎ Contains xs x → (Contains xs x → Contains (filter p xs) x)
          → Contains (cond b (y ∷ filter p xs) (filter p xs)) x
      by_cases true is (inl same) rest = subst (Contains (y ∷ filter p xs)) same (Contains-first y (filter p xs))
      by_cases true is (inr later) rest = Contains-later y (filter p xs) x (rest later)
      by_cases false is (inl same) rest = absurd (false≢true (sym is ∙ ap p same ∙ passes))
      by_cases false is (inr later) rest = rest later
