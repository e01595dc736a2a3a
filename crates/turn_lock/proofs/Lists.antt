-- Lists: histories that begin with others, sums over the views, and elements after a change.
use Rattle.std.proofs.Common.{◌≡◌, ◌≢◌, ℕ, zero, suc, ◌+◌, ◌*◌, ◌^◌, ◌<◌, ◌≤◌, ◌⊎◌, ⊎_elim, inl, inr, List, [], ◌∷◌, ◌++◌, length, take, set, sym, refl, ap, ◌∙◌, subst, arith, eq-eqb, ne_eqb, append_assoc, length-append}
use mathlib.Core.Logic.{dite}
use native.Mathlib.Decide.{ℕ_discrete}
use Rattle.std.proofs.lemmas.List.{take-append-drop, take_at, drop_at, take-take, take_all, drop_all, append-nil}
use Rattle.std.proofs.lemmas.List.Elements.{filter-append}
use Rattle.std.proofs.lemmas.List.Sums.{sum_by-cons}
use Rattle.std.specs.Prelude.{sum_by, All, ◌==◌}
use mathlib.Core.Option.{some, some-injective, some-ne-none}
use lib.ListN.{get_elem?}
use Rattle.turn_lock.specs.Histories.{BeginsWith, past, made_by}

module _ {A : Type 0} where
  pub at_below : (l : List A) (i : ℕ) (a : A) → get_elem? l i ≡ some a → i < length l
  at_below [] i a e = absurd (some-ne-none a (sym e))
  at_below (x ∷ xs) zero a e = omega arith
  at_below (x ∷ xs) (suc i) a e = let h = at_below xs i a e in omega arith

  pub at_one : (l : List A) (i : ℕ) (a b : A) → get_elem? l i ≡ some a → get_elem? l i ≡ some b → a ≡ b
  at_one l i a b e f = some-injective a b (sym e ∙ f)

  pub sum_set : (f : A → ℕ) (l : List A) (i : ℕ) (a b : A) → get_elem? l i ≡ some a → sum_by f (set l i b) + f a ≡ sum_by f l + f b
  sum_set f [] i a b e = absurd (some-ne-none a (sym e))
  sum_set f (x ∷ xs) zero a b e = let s : f x ≡ f a = ap f (some-injective x a e) in omega (arith, sum_by-cons f b xs, sum_by-cons f x xs)
  sum_set f (x ∷ xs) (suc i) a b e = omega (arith, sum_set f xs i a b e, sum_by-cons f x (set xs i b), sum_by-cons f x xs)

  pub sum_at_least : (f : A → ℕ) (l : List A) (i : ℕ) (a : A) → get_elem? l i ≡ some a → f a ≤ sum_by f l
  sum_at_least f [] i a e = absurd (some-ne-none a (sym e))
  sum_at_least f (x ∷ xs) zero a e = let s : f x ≡ f a = ap f (some-injective x a e) in omega (arith, sum_by-cons f x xs)
  sum_at_least f (x ∷ xs) (suc i) a e = omega (arith, sum_at_least f xs i a e, sum_by-cons f x xs)

  -- two elements are no more than the sum
  pub sum_of_two : (f : A → ℕ) (l : List A) (i j : ℕ) (a b : A) → i ≢ j → get_elem? l i ≡ some a → get_elem? l j ≡ some b → f a + f b ≤ sum_by f l
  sum_of_two f [] i j a b ne e d = absurd (some-ne-none a (sym e))
  sum_of_two f (x ∷ xs) zero zero a b ne e d = absurd (ne refl)
  sum_of_two f (x ∷ xs) zero (suc j) a b ne e d = let s : f x ≡ f a = ap f (some-injective x a e) in omega (arith, sum_at_least f xs j b d, sum_by-cons f x xs)
  sum_of_two f (x ∷ xs) (suc i) zero a b ne e d = let s : f x ≡ f b = ap f (some-injective x b d) in omega (arith, sum_at_least f xs i a e, sum_by-cons f x xs)
  sum_of_two f (x ∷ xs) (suc i) (suc j) a b ne e d = omega (arith, sum_of_two f xs i j a b (λ s. ne (ap suc s)) e d, sum_by-cons f x xs)

module _ {A : Type 0} where
  pub begins_is : (b a : List A) → BeginsWith b a → b ≡ a ++ past a b
  begins_is b a h = sym (take-append-drop (length a) b) ∙ ap (λ (z : List A). z ++ past a b) h

  pub begins_more : (a c : List A) → BeginsWith (a ++ c) a
  begins_more a c = take_at a c (length a) refl

  pub past_more : (a c : List A) → past a (a ++ c) ≡ c
  past_more a c = drop_at a c (length a) refl

  pub begins_self : (a : List A) → BeginsWith a a
  begins_self a = take_all (length a) a (omega arith)

  pub past_self : (a : List A) → past a a ≡ []
  past_self a = drop_all (length a) a (omega arith)

  pub begins_no_longer : (b a : List A) → BeginsWith b a → length a ≤ length b
  begins_no_longer b a h = let s = ap length (begins_is b a h) in let t : length b ≡ length a + length (past a b) = s ∙ length-append a (past a b) in omega arith

  -- c is a, then what b has past a, then what c has past b
  pub three_parts : (a b c : List A) → BeginsWith b a → BeginsWith c b → c ≡ a ++ (past a b ++ past b c)
  three_parts a b c h k = begins_is c b k ∙ ap (λ (z : List A). z ++ past b c) (begins_is b a h) ∙ append_assoc a (past a b) (past b c)

  pub begins_through : (a b c : List A) → BeginsWith b a → BeginsWith c b → BeginsWith c a
  begins_through a b c h k = subst (λ (z : List A). BeginsWith z a) (sym (three_parts a b c h k)) (begins_more a (past a b ++ past b c))

  pub past_through : (a b c : List A) → BeginsWith b a → BeginsWith c b → past a c ≡ past a b ++ past b c
  past_through a b c h k = ap (past a) (three_parts a b c h k) ∙ past_more a (past a b ++ past b c)

  pub begins_between : (a b c : List A) → BeginsWith c a → BeginsWith c b → length a ≤ length b → BeginsWith b a
  begins_between a b c h k le = ap (take (length a)) (sym k) ∙ take-take (length a) (length b) c le ∙ h

  pub begins_same : (a b c : List A) → BeginsWith c a → BeginsWith c b → length a ≡ length b → a ≡ b
  begins_same a b c h k e = sym h ∙ ap (λ (n : ℕ). take n c) e ∙ k

  pub begins_whole : (a c : List A) → BeginsWith c a → length c ≤ length a → a ≡ c
  begins_whole a c h le = sym h ∙ take_all (length a) c le

module _ {E : Type 0} where
  pub made_more : (k : ℕ) (a b : List (ℕ × E)) → made_by k (a ++ b) ≡ made_by k a ++ made_by k b
  made_more k a b = filter-append (λ (e : ℕ × E). e.0 == k) a b

  pub made_through_two : (k : ℕ) (a b c : List (ℕ × E)) → BeginsWith b a → BeginsWith c b → made_by k (past a c) ≡ made_by k (past a b) ++ made_by k (past b c)
  made_through_two k a b c h g = ap (made_by k) (past_through a b c h g) ∙ made_more k (past a b) (past b c)

  -- what one pass made has nothing of another
  pub none_of_another : (k id : ℕ) (xs : List (ℕ × E)) → k ≢ id → made_by k (made_by id xs) ≡ []
  none_of_another k id [] ne = refl
  none_of_another k id (x ∷ xs) ne = let r = none_of_another k id xs ne in dite (ℕ_discrete x.0 id)
      (λ e. rw (eq-eqb x.0 id e) (rw (ne_eqb x.0 k (λ d. ne (sym d ∙ e))) r))
      (λ d. rw (ne_eqb x.0 id d) r)

  pub none_of_others : (k id : ℕ) (xs : List (ℕ × E)) → k ≢ id → made_by id xs ≡ xs → made_by k xs ≡ []
  none_of_others k id xs ne own = ap (made_by k) (sym own) ∙ none_of_another k id xs ne

  -- two parts of which neither has an event of pass k
  pub none_in_two : (k : ℕ) (a b c : List (ℕ × E)) → BeginsWith b a → BeginsWith c b → made_by k (past a b) ≡ [] → made_by k (past b c) ≡ [] → made_by k (past a c) ≡ []
  none_in_two k a b c h g x y = made_through_two k a b c h g ∙ (λ i. x i ++ y i)

  -- the second part has none of pass k
  pub made_in_first : (k : ℕ) (a b c : List (ℕ × E)) → BeginsWith b a → BeginsWith c b → made_by k (past b c) ≡ [] → made_by k (past a c) ≡ made_by k (past a b)
  made_in_first k a b c h g y = made_through_two k a b c h g ∙ (λ i. made_by k (past a b) ++ y i) ∙ append-nil (made_by k (past a b))

-- where each element's two values are within its share, so are the sums
pub sums_within : {A : Type 0} (f g h : A → ℕ) (l : List A) → ((i : ℕ) (a : A) → get_elem? l i ≡ some a → f a + g a ≤ h a * 2 ^ 57) → sum_by f l + sum_by g l ≤ sum_by h l * 2 ^ 57
sums_within f g h [] each = omega arith
sums_within f g h (x ∷ xs) each = omega (arith, each 0 x refl, sums_within f g h xs (λ i a e. each (suc i) a e), sum_by-cons f x xs, sum_by-cons g x xs, sum_by-cons h x xs)

-- where each event is of pass k, the events of pass k are all
pub made_by_all : {E : Type 0} (k : ℕ) (xs : List (ℕ × E)) → All (λ (e : ℕ × E). e.0 ≡ k) xs → made_by k xs ≡ xs
made_by_all {E} k [] all = refl
made_by_all {E} k (x ∷ xs) all = rw (eq-eqb x.0 k (all 0 x (omega arith))) (ap (λ (z : List (ℕ × E)). x ∷ z) (made_by_all k xs (λ i d lt. all (suc i) d (omega arith))))

module _ {A : Type 0} where
  pub at_some : (l : List A) (i : ℕ) → i < length l → (a : A) × (get_elem? l i ≡ some a)
  at_some [] i h = absurd (omega arith)
  at_some (x ∷ xs) zero h = (x, refl)
  at_some (x ∷ xs) (suc i) h = at_some xs i (omega arith)

  -- an element of a list with one more is an old one, or the new one, which is last
  pub at_either : (l : List A) (a b : A) (j : ℕ) → get_elem? (l ++ a ∷ []) j ≡ some b → ((j < length l) × (get_elem? l j ≡ some b)) ⊎ ((j ≡ length l) × (a ≡ b))
  at_either [] a b zero e = inr (refl, some-injective a b e)
  at_either [] a b (suc j) e = absurd (some-ne-none b (sym e))
  at_either (x ∷ xs) a b zero e = inl (omega arith, e)
  at_either (x ∷ xs) a b (suc j) e = ⊎_elim (λ (h : (j < length xs) × (get_elem? xs j ≡ some b)). inl (let l = h.0 in omega arith, h.1)) (λ (h : (j ≡ length xs) × (a ≡ b)). inr (let l = h.0 in omega arith, h.1)) (at_either xs a b j e)

  pub nil_parts : (xs ys : List A) → xs ++ ys ≡ [] → (xs ≡ []) × (ys ≡ [])
  nil_parts [] ys e = (refl, e)
  nil_parts (x ∷ xs) ys e = absurd (cc)

-- where a stretch has no event of pass k, neither of its two parts has
pub none_in_parts : {E : Type 0} (k : ℕ) (a b c : List (ℕ × E)) → BeginsWith b a → BeginsWith c b → made_by k (past a c) ≡ [] → (made_by k (past a b) ≡ []) × (made_by k (past b c) ≡ [])
none_in_parts k a b c h g e = nil_parts (made_by k (past a b)) (made_by k (past b c)) (sym (made_through_two k a b c h g) ∙ e)

sum_of_none : {A : Type 0} (f : A → ℕ) (l : List A) → ((j : ℕ) (a : A) → get_elem? l j ≡ some a → f a ≡ 0) → sum_by f l ≡ 0
sum_of_none f [] none = refl
sum_of_none f (x ∷ xs) none = omega (arith, none 0 x refl, sum_of_none f xs (λ j a e. none (suc j) a e), sum_by-cons f x xs)

-- where only the first element counts, the sum is what it counts
pub sum_of_one : {A : Type 0} (f : A → ℕ) (l : List A) (a : A) → get_elem? l 0 ≡ some a → ((j : ℕ) (b : A) → j ≢ 0 → get_elem? l j ≡ some b → f b ≡ 0) → sum_by f l ≡ f a
sum_of_one f [] a e none = absurd (some-ne-none a (sym e))
sum_of_one f (x ∷ xs) a e none = let s : f x ≡ f a = ap f (some-injective x a e) in omega (arith, sum_of_none f xs (λ j b at. none (suc j) b (λ z. omega arith) at), sum_by-cons f x xs)
