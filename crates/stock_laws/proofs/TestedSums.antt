-- Sums over the elements of a list that pass a test.
use Rattle.std.proofs.Common.{◌≡◌, ℕ, ◌+◌, ◌≤◌, Bool, true, false, cond, ◌&&◌, not, List, [], ◌∷◌, ◌++◌, map, filter, sum_by, refl, ap, ◌∙◌, arith}
use Rattle.std.specs.List.{All}
use Rattle.std.proofs.lemmas.Bool.{false≢true}
use Rattle.std.proofs.lemmas.List.Elements.{All-nil, All-cons, All-head, All-tail, filter-append}
use Rattle.std.proofs.lemmas.List.Sums.{sum_by-append, sum_by-cons}
use Rattle.stock_model.proofs.Pairwise.{Each}

-- what an element adds, by whether it passes
abbrev pub counted : Bool → ℕ → ℕ
counted b n = cond b n 0

pub counted-fails : (b : Bool) (n : ℕ) → counted (b && false) n ≡ 0
counted-fails true n = refl
counted-fails false n = refl

pub counted-le : (b : Bool) (n : ℕ) → counted b n ≤ n
counted-le true n = omega arith
counted-le false n = omega arith

-- of two tests the second decides, where the first holds with it
pub counted-parts : (a s after : Bool) (n : ℕ) → (s ≡ true → a ≡ true) → counted (a && after) n ≡ counted ((a && not s) && after) n + counted (s && after) n
counted-parts true true after n h = omega arith
counted-parts true false after n h = omega arith
counted-parts false true after n h = absurd (false≢true (h refl))
counted-parts false false after n h = refl

-- the same after a test that both have
pub counted-parts_after : (before a s : Bool) (n : ℕ) → (s ≡ true → a ≡ true) → counted (before && a) n ≡ counted (before && (a && not s)) n + counted (before && s) n
counted-parts_after false a s n h = refl
counted-parts_after true true true n h = omega arith
counted-parts_after true true false n h = omega arith
counted-parts_after true false true n h = absurd (false≢true (h refl))
counted-parts_after true false false n h = refl

pub tested-cons : {X : Type 0} (f : X → ℕ) (p : X → Bool) (x : X) (xs : List X) → sum_by f (filter p (x ∷ xs)) ≡ counted (p x) (f x) + sum_by f (filter p xs)
tested-cons f p x xs =
    elim (p x) as (λ b. sum_by f (cond b (x ∷ filter p xs) (filter p xs)) ≡ counted b (f x) + sum_by f (filter p xs)) [
      | true ↦ sum_by-cons f x (filter p xs)
      | false ↦ omega arith
    ]

-- one more element at the end
pub tested-snoc : {X : Type 0} (f : X → ℕ) (p : X → Bool) (xs : List X) (x : X) → sum_by f (filter p (xs ++ x ∷ [])) ≡ sum_by f (filter p xs) + counted (p x) (f x)
tested-snoc f p xs x =
    omega (arith, ap (sum_by f) (filter-append p xs (x ∷ [])), sum_by-append f (filter p xs) (filter p (x ∷ [])), tested-cons f p x [])

-- a test that parts into two
pub tested-split : {X : Type 0} (f : X → ℕ) (p q r : X → Bool) → ((x : X) → counted (p x) (f x) ≡ counted (q x) (f x) + counted (r x) (f x)) → (xs : List X)
    → sum_by f (filter p xs) ≡ sum_by f (filter q xs) + sum_by f (filter r xs)
tested-split f p q r each [] = refl
tested-split f p q r each (x ∷ xs) =
    omega (arith, tested-cons f p x xs, tested-cons f q x xs, tested-cons f r x xs, each x, tested-split f p q r each xs)

-- some of the elements have no more than all
pub tested-le : {X : Type 0} (f : X → ℕ) (p : X → Bool) (xs : List X) → sum_by f (filter p xs) ≤ sum_by f xs
tested-le f p [] = omega arith
tested-le f p (x ∷ xs) =
    omega (arith, tested-cons f p x xs, sum_by-cons f x xs, counted-le (p x) (f x), tested-le f p xs)

-- where none passes, nothing is added
pub tested-none : {X : Type 0} (f : X → ℕ) (p : X → Bool) (P : X → Type 0) → ((x : X) → P x → p x ≡ false) → (xs : List X) → Each P xs → sum_by f (filter p xs) ≡ 0
tested-none f p P fails [] all = refl
tested-none f p P fails (x ∷ xs) all =
    ap (λ (b : Bool). sum_by f (cond b (x ∷ filter p xs) (filter p xs))) (fails x all.0) ∙ tested-none f p P fails xs all.1

-- the same of what something is known of another thing of each
pub tested-none_of : {X Y : Type 0} (g : X → Y) (f : X → ℕ) (p : X → Bool) (P : Y → Type 0) → ((x : X) → P (g x) → p x ≡ false) → (xs : List X) → Each P (map g xs) → sum_by f (filter p xs) ≡ 0
tested-none_of g f p P fails [] all = refl
tested-none_of g f p P fails (x ∷ xs) all =
    ap (λ (b : Bool). sum_by f (cond b (x ∷ filter p xs) (filter p xs))) (fails x all.0) ∙ tested-none_of g f p P fails xs all.1

-- two tests that agree on each
pub tested-same_of : {X Y : Type 0} (g : X → Y) (f : X → ℕ) (p q : X → Bool) (P : Y → Type 0) → ((x : X) → P (g x) → p x ≡ q x) → (xs : List X) → Each P (map g xs) → sum_by f (filter p xs) ≡ sum_by f (filter q xs)
tested-same_of g f p q P agree [] all = refl
tested-same_of g f p q P agree (x ∷ xs) all =
    omega (arith, tested-cons f p x xs, tested-cons f q x xs, ap (λ (b : Bool). counted b (f x)) (agree x all.0), tested-same_of g f p q P agree xs all.1)

-- what holds of each holds of each of the first ones, and of the last
pub Each-front : {X : Type 0} (P : X → Type 0) (xs ys : List X) → Each P (xs ++ ys) → Each P xs
Each-front P [] ys all = tt
Each-front P (x ∷ xs) ys all = (all.0, Each-front P xs ys all.1)

pub Each-last : {X : Type 0} (P : X → Type 0) (xs : List X) (x : X) → Each P (xs ++ x ∷ []) → P x
Each-last P [] x all = all.0
Each-last P (y ∷ xs) x all = Each-last P xs x all.1

pub Each-both : {X : Type 0} (P Q R : X → Type 0) → ((x : X) → P x → Q x → R x) → (xs : List X) → Each P xs → Each Q xs → Each R xs
Each-both P Q R f [] h k = tt
Each-both P Q R f (x ∷ xs) h k = (f x h.0 k.0, Each-both P Q R f xs h.1 k.1)

pub All-from_Each : {X : Type 0} (P : X → Type 0) (xs : List X) → Each P xs → All P xs
All-from_Each P [] all = All-nil P
All-from_Each P (x ∷ xs) all = All-cons P x xs all.0 (All-from_Each P xs all.1)

pub Each-from_All : {X : Type 0} (P : X → Type 0) (xs : List X) → All P xs → Each P xs
Each-from_All P [] all = tt
Each-from_All P (x ∷ xs) all = (All-head P x xs all, Each-from_All P xs (All-tail P x xs all))

-- where two tests hold, each does
pub both-first : (a b : Bool) → (a && b) ≡ true → a ≡ true
both-first true b h = refl
both-first false b h = h

pub both-second : (a b : Bool) → (a && b) ≡ true → b ≡ true
both-second true b h = h
both-second false b h = absurd (false≢true h)
