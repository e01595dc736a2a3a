-- Lists whose elements are numbered, element by element.
use Rattle.std.proofs.Common.{ap, ◌∙◌, append_assoc, take, ◌≡◌, ℕ, zero, suc, ◌+◌, ◌<◌, ◌≤◌, Bool, true, false, cond, List, [], ◌∷◌, ◌++◌, length, drop, Some, None, refl, sym, subst, add-one, arith}
use Rattle.std.specs.Prelude.{slice_get, ◌||◌}
use Rattle.std.proofs.lemmas.List.{append-nil}
use Rattle.std.specs.Option.{option_map_or}
use Rattle.std.specs.List.{flat_map, enumerate_from, list_any}
use Rattle.stock_model.specs.declared.targets.NamedTarget.{NamedTarget}
use Rattle.stock_model.specs.Faults.{first_line, first_repeated, is_among}
use Rattle.stock_model.specs.LineViews.{made_at}
use Rattle.stock_model.proofs.Pairwise.{Each}

-- of the rest from an index on, what is made of the element there comes first
flat_map-drop_suc : {X Y : Type 0} (make : ℕ × X → List Y) (n i : ℕ) (xs : List X) → i < length xs
    → flat_map make (enumerate_from n (drop i xs)) ≡ made_at make n (slice_get xs i) ++ flat_map make (enumerate_from (n + 1) (drop (suc i) xs))
flat_map-drop_suc make n i [] h = absurd (omega (arith, h))
flat_map-drop_suc make n zero (x ∷ xs) h = refl
flat_map-drop_suc make n (suc i) (x ∷ xs) h = flat_map-drop_suc make n i xs (omega (arith, h))

pub flat_map-drop : {X Y : Type 0} (make : ℕ × X → List Y) (n i : ℕ) (xs : List X) → i < length xs
    → flat_map make (enumerate_from n (drop i xs)) ≡ made_at make n (slice_get xs i) ++ flat_map make (enumerate_from (n + 1) (drop (i + 1) xs))
flat_map-drop make n i xs h =
    let P : ℕ → Type 0 = λ k. flat_map make (enumerate_from n (drop i xs)) ≡ made_at make n (slice_get xs i) ++ flat_map make (enumerate_from (n + 1) (drop k xs)) in
    subst P (sym (add-one i)) (flat_map-drop_suc make n i xs h)

-- where the element at an index does not pass a test, those after it have the first that does
first_line-drop_suc : {X : Type 0} (test : X → Bool) (n i : ℕ) (xs : List X) → i < length xs → option_map_or test (slice_get xs i) false ≡ false
    → first_line test n (drop i xs) ≡ first_line test (n + 1) (drop (suc i) xs)
first_line-drop_suc test n i [] h fails = absurd (omega (arith, h))
first_line-drop_suc test n zero (x ∷ xs) h fails = rw fails refl
first_line-drop_suc test n (suc i) (x ∷ xs) h fails = first_line-drop_suc test n i xs (omega (arith, h)) fails

pub first_line-drop : {X : Type 0} (test : X → Bool) (n i : ℕ) (xs : List X) → i < length xs → option_map_or test (slice_get xs i) false ≡ false
    → first_line test n (drop i xs) ≡ first_line test (n + 1) (drop (i + 1) xs)
first_line-drop test n i xs h fails =
    subst (λ k. first_line test n (drop i xs) ≡ first_line test (n + 1) (drop k xs)) (sym (add-one i)) (first_line-drop_suc test n i xs h fails)

-- where it passes, it is the first
pub first_line-here : {X : Type 0} (test : X → Bool) (n i : ℕ) (xs : List X) → option_map_or test (slice_get xs i) false ≡ true
    → first_line test n (drop i xs) ≡ Some n
first_line-here test n zero [] passes = cc
first_line-here test n (suc i) [] passes = cc
first_line-here test n zero (x ∷ xs) passes = rw passes refl
first_line-here test n (suc i) (x ∷ xs) passes = first_line-here test n i xs passes

-- after the last there is none
pub first_line-end : {X : Type 0} (test : X → Bool) (n i : ℕ) (xs : List X) → length xs ≤ i → first_line test n (drop i xs) ≡ None
first_line-end test n zero [] h = refl
first_line-end test n (suc i) [] h = refl
first_line-end test n zero (x ∷ xs) h = absurd (omega (arith, h))
first_line-end test n (suc i) (x ∷ xs) h = first_line-end test n i xs (omega (arith, h))

-- an element does not pass a test
abbrev pub Fails : {X : Type 0} → (X → Bool) → X → Type 0
Fails test x = test x ≡ false

-- where no element is the first that passes a test, none does
pub first_line-none : {X : Type 0} (test : X → Bool) (n : ℕ) (xs : List X) → first_line test n xs ≡ None → Each (Fails test) xs
first_line-none test n [] none = tt
first_line-none test n (x ∷ xs) none =
    (elim (test x) as (λ b. cond b (Some n) (first_line test (n + 1) xs) ≡ None → (b ≡ false) × Each (Fails test) xs) [
      | true ↦ λ h. cc
      | false ↦ λ h. (refl, first_line-none test (n + 1) xs h)
    ]) none

-- the first that passes a test has no lower number than the first of all
pub first_line-from : {X : Type 0} (test : X → Bool) (n m : ℕ) (xs : List X) → first_line test n xs ≡ Some m → n ≤ m
first_line-from test n m [] is = cc
first_line-from test n m (x ∷ xs) is =
    (elim (test x) as (λ b. cond b (Some n) (first_line test (n + 1) xs) ≡ Some m → n ≤ m) [
      | true ↦ λ h. let same : n ≡ m = cc in omega arith
      | false ↦ λ h. let later = first_line-from test (n + 1) m xs h in omega arith
    ]) is

-- of the first n the rest from an index on: the element there, or one after it
pub any-drop : {X : Type 0} (test : X → Bool) (i n : ℕ) (xs : List X) → i < n
    → list_any test (drop i (take n xs)) ≡ (option_map_or test (slice_get xs i) false || list_any test (drop (suc i) (take n xs)))
any-drop test i zero xs within = absurd (omega (arith, within))
any-drop test zero (suc n) [] within = refl
any-drop test (suc i) (suc n) [] within = refl
any-drop test zero (suc n) (x ∷ xs) within = refl
any-drop test (suc i) (suc n) (x ∷ xs) within = any-drop test i n xs (omega arith)

-- of the rest from an index on: the element there, or one after it
any-drop_suc : {X : Type 0} (test : X → Bool) (i : ℕ) (xs : List X) → list_any test (drop i xs) ≡ (option_map_or test (slice_get xs i) false || list_any test (drop (suc i) xs))
any-drop_suc test zero [] = refl
any-drop_suc test (suc i) [] = refl
any-drop_suc test zero (x ∷ xs) = refl
any-drop_suc test (suc i) (x ∷ xs) = any-drop_suc test i xs

pub any-drop_all : {X : Type 0} (test : X → Bool) (i : ℕ) (xs : List X) → list_any test (drop i xs) ≡ (option_map_or test (slice_get xs i) false || list_any test (drop (i + 1) xs))
any-drop_all test i xs =
    subst (λ (k : ℕ). list_any test (drop i xs) ≡ (option_map_or test (slice_get xs i) false || list_any test (drop k xs))) (sym (add-one i)) (any-drop_suc test i xs)

-- where the target at an index repeats none before it, those after it have the first that repeats one
repeated-drop_suc : (earlier : List NamedTarget) (n i : ℕ) (named : List NamedTarget) → i < length named
    → option_map_or (is_among (earlier ++ take i named)) (slice_get named i) false ≡ false
    → first_repeated (earlier ++ take i named) n (drop i named) ≡ first_repeated (earlier ++ take (suc i) named) (n + 1) (drop (suc i) named)
repeated-drop_suc earlier n i [] within fails = absurd (omega (arith, within))
repeated-drop_suc earlier n zero (t ∷ ts) within fails =
    ap (λ (b : Bool). cond b (Some n) (first_repeated ((earlier ++ []) ++ t ∷ []) (n + 1) ts)) fails
    ∙ ap (λ (es : List NamedTarget). first_repeated (es ++ t ∷ []) (n + 1) ts) (append-nil earlier)
repeated-drop_suc earlier n (suc i) (t ∷ ts) within fails =
    let P : List NamedTarget → List NamedTarget → Type 0 =
    λ a b. option_map_or (is_among a) (slice_get ts i) false ≡ false → first_repeated a n (drop i ts) ≡ first_repeated b (n + 1) (drop (suc i) ts) in
    let own : P ((earlier ++ t ∷ []) ++ take i ts) ((earlier ++ t ∷ []) ++ take (suc i) ts) =
    λ h. repeated-drop_suc (earlier ++ t ∷ []) n i ts (omega arith) h in
    subst (λ (a : List NamedTarget). P a (earlier ++ t ∷ take (suc i) ts)) (append_assoc earlier (t ∷ []) (take i ts))
    (subst (λ (b : List NamedTarget). P ((earlier ++ t ∷ []) ++ take i ts) b) (append_assoc earlier (t ∷ []) (take (suc i) ts)) own) fails

pub repeated-drop : (n i : ℕ) (named : List NamedTarget) → i < length named → option_map_or (is_among (take i named)) (slice_get named i) false ≡ false
    → first_repeated (take i named) n (drop i named) ≡ first_repeated (take (i + 1) named) (n + 1) (drop (i + 1) named)
repeated-drop n i named within fails =
    subst (λ (k : ℕ). first_repeated (take i named) n (drop i named) ≡ first_repeated (take k named) (n + 1) (drop k named)) (sym (add-one i))
    (repeated-drop_suc [] n i named within fails)

-- where it repeats one, it is the first
pub repeated-here : (earlier : List NamedTarget) (n i : ℕ) (named : List NamedTarget) → option_map_or (is_among earlier) (slice_get named i) false ≡ true
    → first_repeated earlier n (drop i named) ≡ Some n
repeated-here earlier n zero [] repeats = cc
repeated-here earlier n (suc i) [] repeats = cc
repeated-here earlier n zero (t ∷ ts) repeats = rw repeats refl
repeated-here earlier n (suc i) (t ∷ ts) repeats = repeated-here earlier n i ts repeats
