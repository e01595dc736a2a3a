-- Lists in which at most one passes a test: the one that is found, and what changes with it.
use Rattle.std.proofs.Common.{◌≡◌, ℕ, zero, suc, Bool, true, false, cond, not, List, [], ◌∷◌, map, filter, remove, set, slice_get, Some, None, refl, sym, ap, ◌∙◌, arith, Contains}
use Rattle.std.specs.List.{find}
use Rattle.std.specs.Option.{option_map}
use Rattle.std.proofs.lemmas.Bool.{false≢true}
use Rattle.stock_model.proofs.Pairwise.{Each, Contains-later}

module _ {X : Type 0} where
  -- the element fails the test
  abbrev pub Fails : (X → Bool) → X → Type 0
  Fails p x = p x ≡ false

  -- the element at this index passes the test, and no other does
  abbrev pub StandsAt : (X → Bool) → List X → ℕ → Type 0
  StandsAt p [] n = ⊥
  StandsAt p (x ∷ xs) zero = (p x ≡ true) × Each (Fails p) xs
  StandsAt p (x ∷ xs) (suc n) = (p x ≡ false) × StandsAt p xs n

  -- what does not pass fails
  pub fails_from_not_passes : (p : X → Bool) (x : X) → (p x ≡ true → ⊥) → p x ≡ false
  fails_from_not_passes p x never = by_cases (p x) never
    where
      by_cases : (b : Bool) → (b ≡ true → ⊥) → b ≡ false
      by_cases true h = absurd (h refl)
      by_cases false h = refl

  -- what does not fail passes
  pub passes_from_not_fails : (p : X → Bool) (x : X) → (p x ≡ false → ⊥) → p x ≡ true
  passes_from_not_fails p x never = by_cases (p x) never
    where
      by_cases : (b : Bool) → (b ≡ false → ⊥) → b ≡ true
      by_cases true h = refl
      by_cases false h = absurd (h refl)

  -- nothing is found where each fails
  pub find-none : (p : X → Bool) (xs : List X) → Each (Fails p) xs → find p xs ≡ None
  find-none p [] h = refl
  find-none p (x ∷ xs) h = rw h.0 (find-none p xs h.1)

  -- each fails where nothing is found
  pub Fails-from_none : (p : X → Bool) (xs : List X) → find p xs ≡ None → Each (Fails p) xs
  Fails-from_none p [] none = tt
  Fails-from_none p (x ∷ xs) none = by_cases (p x) refl (Fails-from_none p xs) none
    where
      by_cases : (b : Bool) → p x ≡ b → (find p xs ≡ None → Each (Fails p) xs) → cond b (Some x) (find p xs) ≡ None
          → Each (Fails p) (x ∷ xs)
      by_cases true is rest h = cc
      by_cases false is rest h = (is, rest h)

  -- what is found passes, and is in the list
  pub find-found : (p : X → Bool) (xs : List X) (x : X) → find p xs ≡ Some x → (p x ≡ true) × Contains xs x
  find-found p [] x found = cc
  find-found p (y ∷ xs) x found = by_cases (p y) refl (find-found p xs x) found
    where
      by_cases : (b : Bool) → p y ≡ b → (find p xs ≡ Some x → (p x ≡ true) × Contains xs x)
          → cond b (Some y) (find p xs) ≡ Some x → (p x ≡ true) × Contains (y ∷ xs) x
      by_cases true is rest h = let same : y ≡ x = cc in (ap p (sym same) ∙ is, (zero, omega arith, same))
      by_cases false is rest h = let more = rest h in (more.0, Contains-later y xs x more.1)

  -- the one that passes is found
  pub find-StandsAt : (p : X → Bool) (xs : List X) (n : ℕ) → StandsAt p xs n → find p xs ≡ slice_get xs n
  find-StandsAt p [] n h = absurd h
  find-StandsAt p (x ∷ xs) zero h = rw h.0 refl
  find-StandsAt p (x ∷ xs) (suc n) h = rw h.0 (find-StandsAt p xs n h.1)

  -- where none passes, a change of those that do changes nothing
  pub map-none : (p : X → Bool) (f : X → X) (xs : List X) → Each (Fails p) xs → map (λ x. cond (p x) (f x) x) xs ≡ xs
  map-none p f [] h = refl
  map-none p f (x ∷ xs) h = rw h.0 (ap (λ ys. x ∷ ys) (map-none p f xs h.1))

  -- and where one does, it changes that one
  pub map-StandsAt : (p : X → Bool) (f : X → X) (xs : List X) (n : ℕ) (x : X) → StandsAt p xs n → slice_get xs n ≡ Some x
      → map (λ y. cond (p y) (f y) y) xs ≡ set xs n (f x)
  map-StandsAt p f [] n x h is = absurd h
  map-StandsAt p f (y ∷ xs) zero x h is =
      let same : y ≡ x = cc in
      rw h.0 (ap (λ z. f z ∷ map (λ w. cond (p w) (f w) w) xs) same ∙ ap (λ ys. f x ∷ ys) (map-none p f xs h.1))
  map-StandsAt p f (y ∷ xs) (suc n) x h is = rw h.0 (ap (λ ys. y ∷ ys) (map-StandsAt p f xs n x h.1 is))

  -- where none passes, none goes with those that do
  pub filter-none : (p : X → Bool) (xs : List X) → Each (Fails p) xs → filter (λ x. not (p x)) xs ≡ xs
  filter-none p [] h = refl
  filter-none p (x ∷ xs) h = rw h.0 (ap (λ ys. x ∷ ys) (filter-none p xs h.1))

  -- and where one does, that one goes
  pub filter-StandsAt : (p : X → Bool) (xs : List X) (n : ℕ) → StandsAt p xs n → filter (λ x. not (p x)) xs ≡ remove xs n
  filter-StandsAt p [] n h = absurd h
  filter-StandsAt p (x ∷ xs) zero h = rw h.0 (filter-none p xs h.1)
  filter-StandsAt p (x ∷ xs) (suc n) h = rw h.0 (ap (λ ys. x ∷ ys) (filter-StandsAt p xs n h.1))

  -- of those left when these went none passes
  pub find-gone : (p : X → Bool) (xs : List X) → find p (filter (λ x. not (p x)) xs) ≡ None
  find-gone p [] = refl
  find-gone p (x ∷ xs) = by_cases (p x) refl (find-gone p xs)
    where
      left : List X
      left = filter (λ y. not (p y)) xs

      by_cases : (b : Bool) → p x ≡ b → find p left ≡ None → find p (cond (not b) (x ∷ left) left) ≡ None
      by_cases true is rest = rest
      by_cases false is rest = ap (λ b. cond b (Some x) (find p left)) is ∙ rest

  -- and what passes another test that none of these does is found as before
  pub find-left : (p q : X → Bool) → ((x : X) → p x ≡ true → q x ≡ false) → (xs : List X) → find p (filter (λ x. not (q x)) xs) ≡ find p xs
  find-left p q apart [] = refl
  find-left p q apart (x ∷ xs) = by_cases (q x) refl (find-left p q apart xs)
    where
      left : List X
      left = filter (λ y. not (q y)) xs

      by_cases : (b : Bool) → q x ≡ b → find p left ≡ find p xs → find p (cond (not b) (x ∷ left) left) ≡ cond (p x) (Some x) (find p xs)
      by_cases true is rest =
          let other = fails_from_not_passes p x (λ passes. false≢true (sym (apart x passes) ∙ is)) in
          rest ∙ sym (ap (λ b. cond b (Some x) (find p xs)) other)
      by_cases false is rest = ap (λ o. cond (p x) (Some x) o) rest

  -- what is found among those that were changed, but not for the test
  pub find-map : (p : X → Bool) (f : X → X) → ((x : X) → p (f x) ≡ p x) → (xs : List X)
      → find p (map f xs) ≡ option_map f (find p xs)
  find-map p f same [] = refl
  find-map p f same (x ∷ xs) =
      ap (λ b. cond b (Some (f x)) (find p (map f xs))) (same x) ∙ by_cases (p x) (find-map p f same xs)
    where
      by_cases : (b : Bool) → find p (map f xs) ≡ option_map f (find p xs)
          → cond b (Some (f x)) (find p (map f xs)) ≡ option_map f (cond b (Some x) (find p xs))
      by_cases true rest = refl
      by_cases false rest = rest
