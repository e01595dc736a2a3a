-- Lists in which every two elements are related, by recursion on the list.
use Rattle.std.proofs.Common.{◌≡◌, ℕ, zero, suc, ◌<◌, List, [], ◌∷◌, ◌++◌, length, get_or, map, Some, ◌⊎◌, inl, inr, refl, sym, subst, ◌∙◌, arith}
use Rattle.std.specs.List.{AllPairs, Contains}
use Rattle.std.specs.Prelude.{slice_get}

-- x is related to each of the list
abbrev pub Precedes : {X : Type 0} → (X → X → Type 0) → X → List X → Type 0
Precedes R x [] = Unit {0}
Precedes R x (y ∷ ys) = R x y × Precedes R x ys

-- each element is related to each later one
abbrev pub Pairwise : {X : Type 0} → (X → X → Type 0) → List X → Type 0
Pairwise R [] = Unit {0}
Pairwise R (x ∷ xs) = Precedes R x xs × Pairwise R xs

-- each of the first list is related to each of the second
abbrev pub Across : {X : Type 0} → (X → X → Type 0) → List X → List X → Type 0
Across R [] ys = Unit {0}
Across R (x ∷ xs) ys = Precedes R x ys × Across R xs ys

pub Precedes-append : {X : Type 0} (R : X → X → Type 0) (x : X) (xs ys : List X) → Precedes R x xs → Precedes R x ys → Precedes R x (xs ++ ys)
Precedes-append R x [] ys h k = k
Precedes-append R x (y ∷ xs) ys h k = (h.0, Precedes-append R x xs ys h.1 k)

pub Pairwise-append : {X : Type 0} (R : X → X → Type 0) (xs ys : List X) → Pairwise R xs → Pairwise R ys → Across R xs ys → Pairwise R (xs ++ ys)
Pairwise-append R [] ys h k a = k
Pairwise-append R (x ∷ xs) ys h k a =
    (Precedes-append R x xs ys h.0 a.0, Pairwise-append R xs ys h.1 k a.1)

-- x is related to what stands at each index
pub Precedes-at : {X : Type 0} (R : X → X → Type 0) (x : X) (ys : List X) → Precedes R x ys → (j : ℕ) (d : X) → j < length ys → R x (get_or ys j d)
Precedes-at R x [] h j d l = absurd (omega arith)
Precedes-at R x (y ∷ ys) h zero d l = h.0
Precedes-at R x (y ∷ ys) h (suc j) d l = Precedes-at R x ys h.1 j d (omega arith)

-- and back
pub Precedes-from_at : {X : Type 0} (R : X → X → Type 0) (x : X) (ys : List X) → ((j : ℕ) (d : X) → j < length ys → R x (get_or ys j d)) → Precedes R x ys
Precedes-from_at R x [] h = tt
Precedes-from_at R x (y ∷ ys) h =
    (h zero y (omega arith), Precedes-from_at R x ys (λ j d l. h (suc j) d (omega arith)))

-- the same fact by indexes
pub AllPairs-from_Pairwise : {X : Type 0} (R : X → X → Type 0) (xs : List X) → Pairwise R xs → AllPairs R xs
AllPairs-from_Pairwise R [] h i j d l m = absurd (omega arith)
AllPairs-from_Pairwise R (x ∷ xs) h zero zero d l m = absurd (omega arith)
AllPairs-from_Pairwise R (x ∷ xs) h zero (suc j) d l m = Precedes-at R x xs h.0 j d (omega arith)
AllPairs-from_Pairwise R (x ∷ xs) h (suc i) zero d l m = absurd (omega arith)
AllPairs-from_Pairwise R (x ∷ xs) h (suc i) (suc j) d l m =
    AllPairs-from_Pairwise R xs h.1 i j d (omega arith) (omega arith)

pub Pairwise-from_AllPairs : {X : Type 0} (R : X → X → Type 0) (xs : List X) → AllPairs R xs → Pairwise R xs
Pairwise-from_AllPairs R [] h = tt
Pairwise-from_AllPairs R (x ∷ xs) h = (
  Precedes-from_at R x xs (λ j d l. h zero (suc j) d (omega arith) (omega arith)),
  Pairwise-from_AllPairs R xs (λ i j d l m. h (suc i) (suc j) d (omega arith) (omega arith)),
)

-- an element of the rest, or the first
pub Contains-cases : {X : Type 0} (x : X) (xs : List X) (z : X) → Contains (x ∷ xs) z → (x ≡ z) ⊎ Contains xs z
Contains-cases x xs z (zero, l, e) = inl e
Contains-cases x xs z (suc k, l, e) = inr (k, omega arith, e)

pub Contains-first : {X : Type 0} (x : X) (xs : List X) → Contains (x ∷ xs) x
Contains-first x xs = (zero, omega arith, refl)

pub Contains-later : {X : Type 0} (x : X) (xs : List X) (z : X) → Contains xs z → Contains (x ∷ xs) z
Contains-later x xs z (k, l, e) = (suc k, omega arith, e)

-- x is related to each element
pub Precedes-Contains : {X : Type 0} (R : X → X → Type 0) (x : X) (ys : List X) (z : X) → Precedes R x ys → Contains ys z → R x z
Precedes-Contains R x ys z h (k, l, e) = subst (R x) e (Precedes-at R x ys h k z l)

-- lists in one strict order with the same elements are one list
pub Pairwise-unique : {X : Type 0} (R : X → X → Type 0) → ((x : X) → R x x → ⊥) → ((x y : X) → R x y → R y x → ⊥) → (xs ys : List X) → Pairwise R xs → Pairwise R ys → ((z : X) → Contains xs z → Contains ys z) → ((z : X) → Contains ys z → Contains xs z) → xs ≡ ys
Pairwise-unique R never one_way [] [] h k to from = refl
Pairwise-unique R never one_way [] (y ∷ ys) h k to from =
    let c = from y (Contains-first y ys) in absurd (omega (arith, c.1))
Pairwise-unique R never one_way (x ∷ xs) [] h k to from =
    let c = to x (Contains-first x xs) in absurd (omega (arith, c.1))
Pairwise-unique {X = X} R never one_way (x ∷ xs) (y ∷ ys) h k to from =
    let same : x ≡ y = elim (Contains-cases y ys x (to x (Contains-first x xs))) [
      | inl e ↦ sym e
      | inr c ↦ elim (Contains-cases x xs y (from y (Contains-first y ys))) [
        | inl e ↦ e
        | inr d ↦ absurd (one_way y x (Precedes-Contains R y ys x k.0 c) (Precedes-Contains R x xs y h.0 d))
      ]
    ] in
    let onward : (z : X) → Contains xs z → Contains ys z =
    λ z c. elim (Contains-cases y ys z (to z (Contains-later x xs z c))) [
      | inl e ↦ absurd (never x (subst (R x) (sym (same ∙ e)) (Precedes-Contains R x xs z h.0 c)))
      | inr d ↦ d
    ] in
    let back : (z : X) → Contains ys z → Contains xs z =
    λ z c. elim (Contains-cases x xs z (from z (Contains-later y ys z c))) [
      | inl e ↦ absurd (never y (subst (R y) (sym (sym same ∙ e)) (Precedes-Contains R y ys z k.0 c)))
      | inr d ↦ d
    ] in
    let rest : xs ≡ ys = Pairwise-unique R never one_way xs ys h.1 k.1 onward back in
    cc

-- each element has the property
abbrev pub Each : {X : Type 0} → (X → Type 0) → List X → Type 0
Each P [] = Unit {0}
Each P (x ∷ xs) = P x × Each P xs

pub Each-append : {X : Type 0} (P : X → Type 0) (xs ys : List X) → Each P xs → Each P ys → Each P (xs ++ ys)
Each-append P [] ys h k = k
Each-append P (x ∷ xs) ys h k = (h.0, Each-append P xs ys h.1 k)

pub Each-weaker : {X : Type 0} (P Q : X → Type 0) → ((x : X) → P x → Q x) → (xs : List X) → Each P xs → Each Q xs
Each-weaker P Q f [] h = tt
Each-weaker P Q f (x ∷ xs) h = (f x h.0, Each-weaker P Q f xs h.1)

-- x is related to each that has the property
pub Precedes-from_Each : {X : Type 0} (R : X → X → Type 0) (P : X → Type 0) (x : X) → ((y : X) → P y → R x y) → (ys : List X) → Each P ys → Precedes R x ys
Precedes-from_Each R P x f [] h = tt
Precedes-from_Each R P x f (y ∷ ys) h = (f y h.0, Precedes-from_Each R P x f ys h.1)

-- each that has the one property is related to each that has the other
pub Across-from_Each : {X : Type 0} (R : X → X → Type 0) (P Q : X → Type 0) → ((x y : X) → P x → Q y → R x y) → (xs ys : List X) → Each P xs → Each Q ys → Across R xs ys
Across-from_Each R P Q f [] ys h k = tt
Across-from_Each R P Q f (x ∷ xs) ys h k =
    (Precedes-from_Each R Q x (λ y q. f x y h.0 q) ys k, Across-from_Each R P Q f xs ys h.1 k)

-- what holds of all holds of each
pub Each-all : {X : Type 0} (P : X → Type 0) → ((x : X) → P x) → (xs : List X) → Each P xs
Each-all P all [] = tt
Each-all P all (x ∷ xs) = (all x, Each-all P all xs)

-- those that x is related to
pub Each-from_Precedes : {X : Type 0} (R : X → X → Type 0) (x : X) (ys : List X) → Precedes R x ys → Each (R x) ys
Each-from_Precedes R x [] h = tt
Each-from_Precedes R x (y ∷ ys) h = (h.0, Each-from_Precedes R x ys h.1)

-- the element at an index has it
pub Each-at : {X : Type 0} (P : X → Type 0) (xs : List X) (i : ℕ) (x : X) → Each P xs → slice_get xs i ≡ Some x → P x
Each-at P [] zero x all is = cc
Each-at P [] (suc i) x all is = cc
Each-at P (y ∷ xs) zero x all is = let same : y ≡ x = cc in subst P same all.0
Each-at P (y ∷ xs) (suc i) x all is = Each-at P xs i x all.1 is

-- what is made of each
pub Each-map : {X Y : Type 0} (P : Y → Type 0) (f : X → Y) → ((x : X) → P (f x)) → (xs : List X) → Each P (map f xs)
Each-map P f all [] = tt
Each-map P f all (x ∷ xs) = (all x, Each-map P f all xs)
