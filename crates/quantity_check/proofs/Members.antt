-- Lists of which some element has a property, and lines with more movements put among theirs.
use Rattle.std.proofs.Common.{◌≡◌, Bool, true, false, cond, List, [], ◌∷◌, ◌++◌, filter, Contains, ◌⊎◌, inl, inr, refl, sym, ap, ◌∙◌, subst, arith}
use Rattle.std.proofs.lemmas.Bool.{false≢true}
use Rattle.stock_nums.specs.Places.{is_before}
use Rattle.stock_nums.specs.declared.entry.Entry.{Entry}
use Rattle.stock_model.specs.PostingOrder.{put, put_all}
use Rattle.stock_model.proofs.Pairwise.{Each, Each-weaker, Contains-cases, Contains-first, Contains-later}

-- one of the elements has the property
abbrev pub AnyOf : {X : Type 0} → (X → Type 0) → List X → Type 0
AnyOf P [] = ⊥
AnyOf P (x ∷ xs) = P x ⊎ AnyOf P xs

pub AnyOf-weaker : {X : Type 0} (P Q : X → Type 0) → ((x : X) → P x → Q x) → (xs : List X) → AnyOf P xs → AnyOf Q xs
AnyOf-weaker P Q f [] h = absurd h
AnyOf-weaker P Q f (x ∷ xs) h = elim h [ inl p ↦ inl (f x p) | inr r ↦ inr (AnyOf-weaker P Q f xs r) ]

-- the element is one of the list
abbrev pub IsIn : {X : Type 0} → X → List X → Type 0
IsIn x xs = AnyOf (λ y. y ≡ x) xs

-- an element that has the property is one that has
pub AnyOf-from_in : {X : Type 0} (P : X → Type 0) (x : X) (xs : List X) → IsIn x xs → P x → AnyOf P xs
AnyOf-from_in P x xs here p = AnyOf-weaker (λ y. y ≡ x) P (λ y same. subst P (sym same) p) xs here

-- what each has an element has
pub Each-in : {X : Type 0} (P : X → Type 0) (x : X) (xs : List X) → Each P xs → IsIn x xs → P x
Each-in P x [] all here = absurd here
Each-in P x (y ∷ ys) all here = elim here [ inl same ↦ subst P same all.0 | inr r ↦ Each-in P x ys all.1 r ]

-- and some element that has it is one of the list
pub AnyOf-some : {X : Type 0} (P : X → Type 0) (xs : List X) → AnyOf P xs → (x : X) × IsIn x xs × P x
AnyOf-some P [] h = absurd h
AnyOf-some P (x ∷ xs) h =
    elim h [ inl p ↦ (x, inl refl, p) | inr r ↦ let later = AnyOf-some P xs r in (later.0, inr later.1, later.2) ]

-- an element of two lists together that has the property is one of the first or of the second
pub AnyOf-parts : {X : Type 0} (P : X → Type 0) (xs ys : List X) → AnyOf P (xs ++ ys) → AnyOf P xs ⊎ AnyOf P ys
AnyOf-parts P [] ys h = inr h
AnyOf-parts P (x ∷ xs) ys h =
    elim h [
      | inl p ↦ inl (inl p)
      | inr r ↦ elim (AnyOf-parts P xs ys r) [ inl first ↦ inl (inr first) | inr second ↦ inr second ]
    ]

-- what each of two lists together has each of both has
pub Each-parts : {X : Type 0} (P : X → Type 0) (xs ys : List X) → Each P (xs ++ ys) → Each P xs × Each P ys
Each-parts P [] ys h = (tt, h)
Each-parts P (x ∷ xs) ys h = let rest = Each-parts P xs ys h.1 in ((h.0, rest.0), rest.1)

-- each element is one of the list
pub Each-own : {X : Type 0} (xs : List X) → Each (λ x. IsIn x xs) xs
Each-own [] = tt
Each-own (x ∷ xs) =
    (inl refl, Each-weaker (λ y. IsIn y xs) (λ y. IsIn y (x ∷ xs)) (λ y h. inr h) xs (Each-own xs))

-- so each has what all that are in the list have
pub Each-from_in : {X : Type 0} (P : X → Type 0) (xs : List X) → ((x : X) → IsIn x xs → P x) → Each P xs
Each-from_in P xs all = Each-weaker (λ x. IsIn x xs) P all xs (Each-own xs)

-- an element of a list is at some index of it
pub IsIn-Contains : {X : Type 0} (x : X) (xs : List X) → Contains xs x → IsIn x xs
IsIn-Contains x [] held = absurd (omega (arith, held.1))
IsIn-Contains x (y ∷ ys) held =
    elim (Contains-cases y ys x held) [ inl same ↦ inl same | inr later ↦ inr (IsIn-Contains x ys later) ]

-- and back
pub Contains-IsIn : {X : Type 0} (x : X) (xs : List X) → IsIn x xs → Contains xs x
Contains-IsIn x [] here = absurd here
Contains-IsIn x (y ∷ ys) here =
    elim here [
      | inl same ↦ subst (Contains (y ∷ ys)) same (Contains-first y ys)
      | inr later ↦ Contains-later y ys x (Contains-IsIn x ys later)
    ]

-- an element that passes a test is among those that do
pub IsIn-filter : {X : Type 0} (p : X → Bool) (x : X) (xs : List X) → IsIn x xs → p x ≡ true → IsIn x (filter p xs)
IsIn-filter p x [] here passes = absurd here
IsIn-filter p x (y ∷ ys) here passes = by_cases (p y) refl here (λ later. IsIn-filter p x ys later passes)
  where
    by_cases : (b : Bool) → p y ≡ b → (y ≡ x) ⊎ IsIn x ys → (IsIn x ys → IsIn x (filter p ys)) → IsIn x (cond b (y ∷ filter p ys) (filter p ys))
    by_cases true is (inl same) rest = inl same
    by_cases true is (inr later) rest = inr (rest later)
    by_cases false is (inl same) rest = absurd (false≢true (sym is ∙ ap p same ∙ passes))
    by_cases false is (inr later) rest = rest later

-- and back
pub IsIn-filtered : {X : Type 0} (p : X → Bool) (x : X) (xs : List X) → IsIn x (filter p xs) → IsIn x xs × (p x ≡ true)
IsIn-filtered p x [] here = absurd here
IsIn-filtered p x (y ∷ ys) here = by_cases (p y) refl here (IsIn-filtered p x ys)
  where
    by_cases : (b : Bool) → p y ≡ b → IsIn x (cond b (y ∷ filter p ys) (filter p ys)) → (IsIn x (filter p ys) → IsIn x ys × (p x ≡ true)) → IsIn x (y ∷ ys) × (p x ≡ true)
    by_cases true is h rest =
        elim h [ inl same ↦ (inl same, ap p (sym same) ∙ is) | inr later ↦ (inr (rest later).0, (rest later).1) ]
    by_cases false is h rest = (inr (rest h).0, (rest h).1)

-- what each of a line and one more have each has once that one is put in
pub Each-put : (P : Entry → Type 0) (line : List Entry) (e : Entry) → Each P line → P e → Each P (put line e)
Each-put P [] e h p = (p, tt)
Each-put P (f ∷ fs) e h p =
    elim (is_before e.place f.place) as (λ b. Each P (cond b (e ∷ f ∷ fs) (f ∷ put fs e))) [ true ↦ (p, h) | false ↦ (h.0, Each-put P fs e h.1 p) ]

pub Each-put_all : (P : Entry → Type 0) (line es : List Entry) → Each P line → Each P es → Each P (put_all line es)
Each-put_all P line [] h k = h
Each-put_all P line (e ∷ es) h k = Each-put_all P (put line e) es (Each-put P line e h k.0) k.1

-- what one of a line has one still has
AnyOf-put_line : (P : Entry → Type 0) (line : List Entry) (e : Entry) → AnyOf P line → AnyOf P (put line e)
AnyOf-put_line P [] e h = absurd h
AnyOf-put_line P (f ∷ fs) e h =
    elim (is_before e.place f.place) as (λ b. AnyOf P (cond b (e ∷ f ∷ fs) (f ∷ put fs e))) [ true ↦ inr h | false ↦ elim h [ inl p ↦ inl p | inr r ↦ inr (AnyOf-put_line P fs e r) ] ]

-- and what the one put in has
AnyOf-put_new : (P : Entry → Type 0) (line : List Entry) (e : Entry) → P e → AnyOf P (put line e)
AnyOf-put_new P [] e p = inl p
AnyOf-put_new P (f ∷ fs) e p =
    elim (is_before e.place f.place) as (λ b. AnyOf P (cond b (e ∷ f ∷ fs) (f ∷ put fs e))) [ true ↦ inl p | false ↦ inr (AnyOf-put_new P fs e p) ]

pub AnyOf-put_all_line : (P : Entry → Type 0) (line es : List Entry) → AnyOf P line → AnyOf P (put_all line es)
AnyOf-put_all_line P line [] h = h
AnyOf-put_all_line P line (e ∷ es) h = AnyOf-put_all_line P (put line e) es (AnyOf-put_line P line e h)

pub AnyOf-put_all_new : (P : Entry → Type 0) (line es : List Entry) → AnyOf P es → AnyOf P (put_all line es)
AnyOf-put_all_new P line [] h = absurd h
AnyOf-put_all_new P line (e ∷ es) h =
    elim h [ inl p ↦ AnyOf-put_all_line P (put line e) es (AnyOf-put_new P line e p) | inr r ↦ AnyOf-put_all_new P (put line e) es r ]
