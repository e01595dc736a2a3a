-- Lists in which all that pass a test come first: how many these are, and what stands before and after.
use Rattle.std.proofs.Common.{◌≡◌, ℕ, zero, suc, ◌<◌, ◌≤◌, Bool, true, false, cond, List, [], ◌∷◌, length, get_or, take, filter, Some, None, refl, sym, ap, ◌∙◌, arith}
use Rattle.std.specs.List.{find, All, AllWithin}
use Rattle.std.proofs.lemmas.Bool.{false≢true}
use Rattle.stock_model.proofs.Pairwise.{Precedes, Pairwise, Each}

module _ {X : Type 0} where
  -- the element passes the test
  abbrev pub Passes : (X → Bool) → X → Type 0
  Passes p x = p x ≡ true

  -- the element fails the test
  abbrev pub Fails : (X → Bool) → X → Type 0
  Fails p x = p x ≡ false

  -- where the second passes the first does
  abbrev pub PassesBack : (X → Bool) → X → X → Type 0
  PassesBack p a b = p b ≡ true → p a ≡ true

  -- an element related to each is so by what follows from that
  pub Precedes-weaker : (R S : X → X → Type 0) → ((a b : X) → R a b → S a b) → (x : X) (xs : List X) → Precedes R x xs → Precedes S x xs
  Precedes-weaker R S f x [] h = tt
  Precedes-weaker R S f x (y ∷ ys) h = (f x y h.0, Precedes-weaker R S f x ys h.1)

  -- and so are every two
  pub Pairwise-weaker : (R S : X → X → Type 0) → ((a b : X) → R a b → S a b) → (xs : List X) → Pairwise R xs → Pairwise S xs
  Pairwise-weaker R S f [] h = tt
  Pairwise-weaker R S f (x ∷ xs) h = (Precedes-weaker R S f x xs h.0, Pairwise-weaker R S f xs h.1)

  -- each to which x is related has what follows from that
  pub Each-from_Precedes : (R : X → X → Type 0) (P : X → Type 0) (x : X) → ((y : X) → R x y → P y) → (xs : List X) → Precedes R x xs → Each P xs
  Each-from_Precedes R P x f [] h = tt
  Each-from_Precedes R P x f (y ∷ ys) h = (f y h.0, Each-from_Precedes R P x f ys h.1)

  -- the same fact by indexes
  pub All-from_Each : (P : X → Type 0) (xs : List X) → Each P xs → All P xs
  All-from_Each P [] h k d l = absurd (omega arith)
  All-from_Each P (x ∷ xs) h zero d l = h.0
  All-from_Each P (x ∷ xs) h (suc k) d l = All-from_Each P xs h.1 k d (omega arith)

  -- what does not fail passes
  pub passes_from_not_fails : (p : X → Bool) (x : X) → (p x ≡ false → ⊥) → p x ≡ true
  passes_from_not_fails p x never = by_cases (p x) never
    where
      by_cases : (b : Bool) → (b ≡ false → ⊥) → b ≡ true
      by_cases true h = refl
      by_cases false h = absurd (h refl)

  -- what does not pass fails
  pub fails_from_not_passes : (p : X → Bool) (x : X) → (p x ≡ true → ⊥) → p x ≡ false
  fails_from_not_passes p x never = by_cases (p x) never
    where
      by_cases : (b : Bool) → (b ≡ true → ⊥) → b ≡ false
      by_cases true h = absurd (h refl)
      by_cases false h = refl

  -- none is kept where each fails
  pub filter-none : (p : X → Bool) (xs : List X) → Each (Fails p) xs → filter p xs ≡ []
  filter-none p [] h = refl
  filter-none p (x ∷ xs) h = rw h.0 (filter-none p xs h.1)

  -- nothing is found where each fails
  pub find-none : (p : X → Bool) (xs : List X) → Each (Fails p) xs → find p xs ≡ None
  find-none p [] h = refl
  find-none p (x ∷ xs) h = rw h.0 (find-none p xs h.1)

  -- each fails where nothing is found
  pub Fails-from_none : (p : X → Bool) (xs : List X) → find p xs ≡ None → Each (Fails p) xs
  Fails-from_none p [] none = tt
  Fails-from_none p (x ∷ xs) none = by_cases (p x) refl (Fails-from_none p xs) none
    where
      by_cases : (b : Bool) → p x ≡ b → (find p xs ≡ None → Each (Fails p) xs) → cond b (Some x) (find p xs) ≡ None → Each (Fails p) (x ∷ xs)
      by_cases true is rest h = cc
      by_cases false is rest h = (is, rest h)

  -- after one that fails each does
  Fails-along : (p : X → Bool) (x : X) (xs : List X) → p x ≡ false → Precedes (PassesBack p) x xs → Each (Fails p) xs
  Fails-along p x xs fails back =
      Each-from_Precedes (PassesBack p) (Fails p) x (λ y h. fails_from_not_passes p y (λ passes. false≢true (sym fails ∙ h passes))) xs back

  -- where none of several passes, the first doesn't
  pub first_fails : (p : X → Bool) (x : X) (xs : List X) → 0 ≡ length (filter p (x ∷ xs)) → p x ≡ false
  first_fails p x xs none =
      fails_from_not_passes p x (λ passes. let more : 0 ≡ length (x ∷ filter p xs) = rw passes at none in omega (arith, more))

  -- where one of several passes, the first does, and one fewer of the others
  pub first_passes : (p : X → Bool) (x : X) (xs : List X) (n : ℕ) → Pairwise (PassesBack p) (x ∷ xs) → suc n ≡ length (filter p (x ∷ xs))
      → (p x ≡ true) × (n ≡ length (filter p xs))
  first_passes p x xs n back some =
      let passes : p x ≡ true = passes_from_not_fails p x (λ fails.
      let none : suc n ≡ 0 = some ∙ ap length (filter-none p (x ∷ xs) (fails, Fails-along p x xs fails back.0)) in
      omega (arith, none)) in
      let more : suc n ≡ length (x ∷ filter p xs) = rw passes at some in
      (passes, omega (arith, more))

  -- the first ones, as many as pass, are those that pass
  pub take-passing : (p : X → Bool) (xs : List X) (n : ℕ) → Pairwise (PassesBack p) xs → n ≡ length (filter p xs) → take n xs ≡ filter p xs
  take-passing p [] zero back is = refl
  take-passing p [] (suc n) back is = refl
  take-passing p (x ∷ xs) zero back is =
      let fails = first_fails p x xs is in
      sym (filter-none p (x ∷ xs) (fails, Fails-along p x xs fails back.0))
  take-passing p (x ∷ xs) (suc n) back is =
      let first = first_passes p x xs n back is in
      rw first.0 (ap (λ ys. x ∷ ys) (take-passing p xs n back.1 first.1))

  -- where none passes at any index, none is kept
  filter-none_at : (p : X → Bool) (xs : List X) → ((k : ℕ) (d : X) → k < length xs → p (get_or xs k d) ≡ false) → filter p xs ≡ []
  filter-none_at p [] h = refl
  filter-none_at p (x ∷ xs) h =
      let fails : p x ≡ false = h zero x (omega arith) in
      rw fails (filter-none_at p xs (λ k d l. h (suc k) d (omega arith)))

  -- the index before which each passes, and from which each fails, is how many pass
  pub length-filter-parted : (p : X → Bool) (xs : List X) (i : ℕ) → i ≤ length xs → AllWithin (Passes p) xs 0 i → AllWithin (Fails p) xs i (length xs) → i ≡ length (filter p xs)
  length-filter-parted p [] i within front rest = omega (arith, within)
  length-filter-parted p (x ∷ xs) zero within front rest =
      sym (ap length (filter-none_at p (x ∷ xs) (λ k d l. rest k d (omega arith) l)))
  length-filter-parted p (x ∷ xs) (suc i) within front rest =
      let passes : p x ≡ true = front zero x (omega arith) (omega arith) in
      let others : i ≡ length (filter p xs) =
      length-filter-parted p xs i (omega arith) (λ k d l m. front (suc k) d (omega arith) (omega arith)) (λ k d l m. rest (suc k) d (omega arith) (omega arith)) in
      rw passes (omega (arith, others))
