-- Lists that a test parts at an index: what is taken and kept, and what is found first and last.
use Rattle.std.proofs.Common.{◌≡◌, ℕ, zero, suc, ◌<◌, ◌≤◌, ◌+◌, Bool, true, false, ◌&&◌, ◌||◌, List, [], ◌∷◌, length, get_or, take, filter, remove, reverse, ℤ, ◌+ℤ◌, Some, None, refl, sym, ap, ◌∙◌, arith}
use Rattle.std.specs.List.{find}
use Rattle.std.specs.Option.{option_or}
use Rattle.std.specs.List.Sorted.{IsPartitionPoint}
use Rattle.std.proofs.lemmas.Bool.{false≢true}
use Rattle.std.proofs.lemmas.Int.{ints}
use Rattle.std.proofs.lemmas.List.{reverse-append}
use Rattle.std.proofs.lemmas.List.Folds.{find-append}
use Rattle.block_list.specs.Sums.{total}

module _ {X : Type 0} where
  -- the items before the index pass the test, and the others do not
  abbrev pub IsPoint : (X → Bool) → List X → ℕ → Type 0
  IsPoint p xs n = IsPartitionPoint (λ x. p x ≡ true) (λ x. p x ≡ false) xs n

  -- the same of all but the first
  IsPoint-rest : (p : X → Bool) (x : X) (xs : List X) (n : ℕ) → IsPoint p (x ∷ xs) (suc n) → IsPoint p xs n
  IsPoint-rest p x xs n point = (
    λ k d from to. point.0 (suc k) d (omega arith) (omega (arith, to)),
    λ k d from to. point.1 (suc k) d (omega (arith, from))
        (omega (arith, to)),
  )

  IsPoint-none : (p : X → Bool) (x : X) (xs : List X) → IsPoint p (x ∷ xs) zero → IsPoint p xs zero
  IsPoint-none p x xs point =
      (λ k d from to. absurd (omega (arith, to)), λ k d from to. point.1 (suc k) d (omega arith) (omega (arith, to)))

  -- the first ones are those that pass
  pub take-point : (p : X → Bool) (xs : List X) (n : ℕ) → IsPoint p xs n → take n xs ≡ filter p xs
  take-point p [] zero point = refl
  take-point p [] (suc n) point = refl
  take-point p (x ∷ xs) zero point =
      let fails : p x ≡ false = point.1 zero x (omega arith) (omega arith) in
      rw fails (take-point p xs zero (IsPoint-none p x xs point))
  take-point p (x ∷ xs) (suc n) point =
      let passes : p x ≡ true = point.0 zero x (omega arith) (omega arith) in
      rw passes (ap (λ ys. x ∷ ys) (take-point p xs n (IsPoint-rest p x xs n point)))

  -- as many as the index says
  pub length-point : (p : X → Bool) (xs : List X) (n : ℕ) → n ≤ length xs → IsPoint p xs n → n ≡ length (filter p xs)
  length-point p [] zero within point = refl
  length-point p [] (suc n) within point = absurd (omega (arith, within))
  length-point p (x ∷ xs) zero within point =
      let fails : p x ≡ false = point.1 zero x (omega arith) (omega arith) in
      rw fails (length-point p xs zero (omega arith) (IsPoint-none p x xs point))
  length-point p (x ∷ xs) (suc n) within point =
      let passes : p x ≡ true = point.0 zero x (omega arith) (omega arith) in
      let rest = length-point p xs n (omega (arith, within)) (IsPoint-rest p x xs n point) in
      rw passes (omega (arith, rest))

  -- those that pass a test, or a second and a third, the first and the second never both
  pub length-filter-either : (a b q : X → Bool) → ((x : X) → a x ≡ true → b x ≡ false) → (xs : List X)
      → length (filter (λ x. a x || (b x && q x)) xs) ≡ length (filter a xs) + length (filter q (filter b xs))
  length-filter-either a b q apart [] = refl
  length-filter-either a b q apart (x ∷ xs) = by_cases (a x) (b x) (q x) refl refl refl (length-filter-either a b q apart xs)
    where
      by_cases : (u v w : Bool) → a x ≡ u → b x ≡ v → q x ≡ w
          → length (filter (λ y. a y || (b y && q y)) xs) ≡ length (filter a xs) + length (filter q (filter b xs))
          → length (filter (λ y. a y || (b y && q y)) (x ∷ xs)) ≡ length (filter a (x ∷ xs)) + length
          (filter q (filter b (x ∷ xs)))
      by_cases true true w au bv qw h = absurd (false≢true (sym (apart x au) ∙ bv))
      by_cases true false w au bv qw h = rw (au, bv) (omega (arith, h))
      by_cases false true true au bv qw h = rw (au, bv, qw) (omega (arith, h))
      by_cases false true false au bv qw h = rw (au, bv, qw) h
      by_cases false false w au bv qw h = rw (au, bv) h

  -- what they count together
  pub total-filter-either : (w : X → ℤ) (a b q : X → Bool) → ((x : X) → a x ≡ true → b x ≡ false) → (xs : List X)
      → total w (filter (λ x. a x || (b x && q x)) xs) ≡ total w (filter a xs) +ℤ total w (filter q (filter b xs))
  total-filter-either w a b q apart [] = omega (arith, ints)
  total-filter-either w a b q apart (x ∷ xs) = by_cases (a x) (b x) (q x) refl refl refl (total-filter-either w a b q apart xs)
    where
      by_cases : (u v r : Bool) → a x ≡ u → b x ≡ v → q x ≡ r
          → total w (filter (λ y. a y || (b y && q y)) xs) ≡ total w (filter a xs) +ℤ total w (filter q (filter b xs))
          → total w (filter (λ y. a y || (b y && q y)) (x ∷ xs)) ≡ total w (filter a (x ∷ xs)) +ℤ total w
          (filter q (filter b (x ∷ xs)))
      by_cases true true r au bv qr h = absurd (false≢true (sym (apart x au) ∙ bv))
      by_cases true false r au bv qr h = rw (au, bv) (omega (arith, ints, h))
      by_cases false true true au bv qr h = rw (au, bv, qr) (omega (arith, ints, h))
      by_cases false true false au bv qr h = rw (au, bv, qr) h
      by_cases false false r au bv qr h = rw (au, bv) h

  -- what is found among those that pass a test is what passes both
  pub find-filter : (b q : X → Bool) (xs : List X) → find q (filter b xs) ≡ find (λ x. b x && q x) xs
  find-filter b q [] = refl
  find-filter b q (x ∷ xs) = by_cases (b x) (q x) refl refl (find-filter b q xs)
    where
      by_cases : (u v : Bool) → b x ≡ u → q x ≡ v → find q (filter b xs) ≡ find (λ y. b y && q y) xs
          → find q (filter b (x ∷ xs)) ≡ find (λ y. b y && q y) (x ∷ xs)
      by_cases true true bu qv h = rw (bu, qv) refl
      by_cases true false bu qv h = rw (bu, qv) h
      by_cases false v bu qv h = rw bu h

  -- nothing is found where none passes
  pub find-none_at : (q : X → Bool) (xs : List X) → ((k : ℕ) (d : X) → k < length xs → q (get_or xs k d) ≡ false)
      → find q xs ≡ None
  find-none_at q [] none = refl
  find-none_at q (x ∷ xs) none =
      let fails : q x ≡ false = none zero x (omega arith) in
      rw fails (find-none_at q xs (λ k d l. none (suc k) d (omega (arith, l))))

  -- the first that passes
  pub find-first_at : (q : X → Bool) (xs : List X) (n : ℕ) (e : X) → n < length xs
      → ((k : ℕ) (d : X) → k < n → q (get_or xs k d) ≡ false) → q (get_or xs n e) ≡ true
      → find q xs ≡ Some (get_or xs n e)
  find-first_at q [] n e within before passes = absurd (omega (arith, within))
  find-first_at q (x ∷ xs) zero e within before passes = rw passes refl
  find-first_at q (x ∷ xs) (suc n) e within before passes =
      let fails : q x ≡ false = before zero x (omega arith) in
      rw fails (find-first_at q xs n e (omega (arith, within)) (λ k d l. before (suc k) d (omega (arith, l))) passes)

  -- what is found last among the items and one before them
  find-reverse-more : (b q : X → Bool) (x : X) (xs : List X) (r : List X) → r ≡ filter b xs
      → find q (reverse (x ∷ r)) ≡ option_or (find q (reverse r)) (find q (x ∷ []))
  find-reverse-more b q x xs r is =
      ap (find q) (reverse-append (x ∷ []) r) ∙ find-append q (reverse r) (x ∷ [])

  -- nothing is found from the end where none passes
  pub find_last-none_at : (b q : X → Bool) (xs : List X)
      → ((k : ℕ) (d : X) → k < length xs → (b (get_or xs k d) && q (get_or xs k d)) ≡ false)
      → find q (reverse (filter b xs)) ≡ None
  find_last-none_at b q [] none = refl
  find_last-none_at b q (x ∷ xs) none = by_cases (b x) (q x) refl refl (none zero x (omega arith))
      (find_last-none_at b q xs (λ k d l. none (suc k) d (omega (arith, l))))
    where
      by_cases : (u v : Bool) → b x ≡ u → q x ≡ v → (b x && q x) ≡ false → find q (reverse (filter b xs)) ≡ None
          → find q (reverse (filter b (x ∷ xs))) ≡ None
      by_cases true true bu qv fails h = let no : (true && true) ≡ false = rw (bu, qv) at fails in absurd (false≢true (sym no))
      by_cases true false bu qv fails h = rw bu (find-reverse-more b q x xs (filter b xs) refl ∙ rw (h, qv) refl)
      by_cases false v bu qv fails h = rw bu h

  -- the last that passes
  pub find_last-at : (b q : X → Bool) (xs : List X) (n : ℕ) (e : X) → n < length xs
      → ((k : ℕ) (d : X) → n < k → k < length xs → (b (get_or xs k d) && q (get_or xs k d)) ≡ false)
      → b (get_or xs n e) ≡ true → q (get_or xs n e) ≡ true → find q (reverse (filter b xs)) ≡ Some (get_or xs n e)
  find_last-at b q [] n e within after is passes = absurd (omega (arith, within))
  find_last-at b q (x ∷ xs) zero e within after is passes =
      let none = find_last-none_at b q xs (λ k d l. after (suc k) d (omega arith) (omega (arith, l))) in
      rw is (find-reverse-more b q x xs (filter b xs) refl ∙ rw (none, passes) refl)
  find_last-at b q (x ∷ xs) (suc n) e within after is passes =
      let rest = find_last-at b q xs n e (omega (arith, within))
      (λ k d more l. after (suc k) d (omega (arith, more)) (omega (arith, l))) is passes in
      by_cases (b x) refl rest
    where
      by_cases : (u : Bool) → b x ≡ u → find q (reverse (filter b xs)) ≡ Some (get_or xs n e)
          → find q (reverse (filter b (x ∷ xs))) ≡ Some (get_or xs n e)
      by_cases true bu h = rw bu (find-reverse-more b q x xs (filter b xs) refl ∙ rw h refl)
      by_cases false bu h = rw bu h

  -- all are kept where each passes
  pub filter-all_at : (p : X → Bool) (xs : List X) → ((k : ℕ) (d : X) → k < length xs → p (get_or xs k d) ≡ true)
      → filter p xs ≡ xs
  filter-all_at p [] all = refl
  filter-all_at p (x ∷ xs) all =
      let passes : p x ≡ true = all zero x (omega arith) in
      rw passes (ap (λ ys. x ∷ ys) (filter-all_at p xs (λ k d l. all (suc k) d (omega (arith, l)))))

  -- and all but one where it alone fails
  pub filter-but_one : (p : X → Bool) (xs : List X) (n : ℕ) (e : X) → n < length xs → p (get_or xs n e) ≡ false
      → ((k : ℕ) (d : X) → k < n → p (get_or xs k d) ≡ true)
      → ((k : ℕ) (d : X) → n < k → k < length xs → p (get_or xs k d) ≡ true) → filter p xs ≡ remove xs n
  filter-but_one p [] n e within fails before after = absurd (omega (arith, within))
  filter-but_one p (x ∷ xs) zero e within fails before after =
      rw fails (filter-all_at p xs (λ k d l. after (suc k) d (omega arith) (omega (arith, l))))
  filter-but_one p (x ∷ xs) (suc n) e within fails before after =
      let passes : p x ≡ true = before zero x (omega arith) in
      rw passes
      (ap (λ ys. x ∷ ys)
      (filter-but_one p xs n e (omega (arith, within)) fails (λ k d l. before (suc k) d (omega (arith, l)))
      (λ k d more l. after (suc k) d (omega (arith, more)) (omega (arith, l)))))
