-- Lists in which each thing stands with a number, put together from the lists of each number.
use Rattle.std.proofs.Common.{◌≡◌, ◌≢◌, ℕ, zero, suc, ◌≤◌, List, [], ◌∷◌, ◌++◌, length, map, refl, sym, ap, ◌∙◌, subst, arith, eq-eqb, ne_eqb}
use Rattle.std.specs.Prelude.{◌==◌, not, if◌then◌else◌, IsPermutation}
use Rattle.std.proofs.lemmas.List.Sorted.{IsPermutation-refl, IsPermutation-sym, IsPermutation-trans, IsPermutation-filter_both, IsPermutation-append_right}
use mathlib.Core.Logic.{dite}
use native.Mathlib.Decide.{ℕ_discrete}
use Rattle.turn_lock.specs.Histories.{made_by}
use Rattle.shared_listener.specs.Visits.{visits_to}
use Rattle.shared_listener.proofs.OfNumbers.{others_of, others-no_longer, made-others-same, made-others-other}

-- the entries are what f gives of visits, of which each number has these
pub record Merged {P V : Type 0} (f : V → P) (entries : List (ℕ × P)) (visits : ℕ → List V) : Type 0 where
  pub all : List (ℕ × V)
  pub are : entries ≡ map (λ visit. (visit.0, f visit.1)) all
  pub own : (k : ℕ) → visits_to k all ≡ visits k

module _ {V : Type 0} where
  pub visits_to-same : (n k : ℕ) (v : V) (all : List (ℕ × V)) → n ≡ k → visits_to k ((n, v) ∷ all) ≡ v ∷ visits_to k all
  visits_to-same n k v all same = rw (eq-eqb n k same) refl

  pub visits_to-other : (n k : ℕ) (v : V) (all : List (ℕ × V)) → n ≢ k → visits_to k ((n, v) ∷ all) ≡ visits_to k all
  visits_to-other n k v all other = rw (ne_eqb n k other) refl

module _ {P V : Type 0} (f : V → P) where
  none_of : (vs : List V) → [] ≡ map f vs → [] ≡ vs
  none_of [] none = refl
  none_of (v ∷ vs) none = absurd (cc)

  -- the first entry is of the first visit of its number
  merged-more : (n : ℕ) (p : P) (entries : List (ℕ × P)) (visits : ℕ → List V) (vs : List V) → visits n ≡ vs
      → ((k : ℕ) → visits_to k ((n, p) ∷ entries) ≡ map f (visits k))
      → ((later : ℕ → List V) → ((k : ℕ) → visits_to k entries ≡ map f (later k)) → Merged f entries later)
      → Merged f ((n, p) ∷ entries) visits
  merged-more n p entries visits [] is each rest =
      let h : p ∷ visits_to n entries ≡ [] = sym (visits_to-same n n p entries refl) ∙ each n ∙ ap (map f) is in
      absurd (cc)
  merged-more n p entries visits (v ∷ vs) is each rest =
      let later : ℕ → List V = λ k. if n == k then vs else visits k in
      let here : (k : ℕ) → n ≡ k → later k ≡ vs = λ k e. rw (eq-eqb n k e) refl in
      let elsewhere : (k : ℕ) → n ≢ k → later k ≡ visits k = λ k d. rw (ne_eqb n k d) refl in
      let h : p ∷ visits_to n entries ≡ f v ∷ map f vs = sym (visits_to-same n n p entries refl) ∙ each n ∙ ap (map f) is in
      let head : p ≡ f v = cc in
      let tail : visits_to n entries ≡ map f vs = cc in
      let r = rest later (λ k. dite (ℕ_discrete n k)
      (λ e. subst (λ (m : ℕ). visits_to m entries ≡ map f vs) e tail ∙ ap (map f) (sym (here k e)))
      (λ d. sym (visits_to-other n k p entries d) ∙ each k ∙ ap (map f) (sym (elsewhere k d)))) in
      record {
        all = (n, v) ∷ r.all;
        are = (λ i. (n, head i) ∷ r.are i);
        own = λ k. dite (ℕ_discrete n k)
            (λ e. visits_to-same n k v r.all e ∙ ap (λ (z : List V). v ∷ z) (r.own k ∙ here k e) ∙ sym is ∙ ap visits e)
            (λ d. visits_to-other n k v r.all d ∙ r.own k ∙ elsewhere k d);
      }

  pub merged : (entries : List (ℕ × P)) (visits : ℕ → List V) → ((k : ℕ) → visits_to k entries ≡ map f (visits k)) → Merged f entries visits
  merged [] visits each = record { all = []; are = refl; own = λ k. none_of (visits k) (each k) }
  merged ((n, p) ∷ entries) visits each = merged-more n p entries visits (visits n) refl each (merged entries)

module _ {V : Type 0} where
  -- what stands with one number is told by the visits of that number
  numbered-by : (k : ℕ) (all : List (ℕ × V)) → made_by k all ≡ map (λ v. (k, v)) (visits_to k all)
  numbered-by k [] = refl
  numbered-by k ((n, v) ∷ all) = let r = numbered-by k all in dite (ℕ_discrete n k)
      (λ e. rw (eq-eqb n k e) (λ i. (e i, v) ∷ r i))
      (λ d. rw (ne_eqb n k d) r)

  made_by-same : (n : ℕ) (v : V) (all : List (ℕ × V)) → made_by n ((n, v) ∷ all) ≡ (n, v) ∷ made_by n all
  made_by-same n v all = rw (eq-eqb n n refl) refl

  none_made : (all : List (ℕ × V)) → ((k : ℕ) → [] ≡ made_by k all) → [] ≡ all
  none_made [] each = refl
  none_made ((n, v) ∷ all) each =
      let h : [] ≡ (n, v) ∷ made_by n all = each n ∙ made_by-same n v all in absurd (cc)

  -- where each number has the same, both are the same but for the order; by recursion on a length that is no less than the first's
  same_within : (n : ℕ) (xs ys : List (ℕ × V)) → length xs ≤ n → ((k : ℕ) → made_by k xs ≡ made_by k ys) → IsPermutation xs ys
  same_within n [] ys within each = subst (λ (z : List (ℕ × V)). IsPermutation [] z) (none_made ys each) (IsPermutation-refl [])
  same_within zero (x ∷ xs) ys within each = absurd (omega arith)
  same_within (suc n) (x ∷ xs) ys within each =
      let k = x.0 in
      let is = λ (e : ℕ × V). e.0 == k in
      let other = λ (e : ℕ × V). not (e.0 == k) in
      let rest : List (ℕ × V) = others_of k (x ∷ xs) in
      let dropped : rest ≡ others_of k xs = rw (eq-eqb x.0 x.0 refl) refl in
      let shorter : length rest ≤ length xs = subst (λ (z : List (ℕ × V)). length z ≤ length xs) (sym dropped) (others-no_longer k xs) in
      let same_rest : (j : ℕ) → made_by j rest ≡ made_by j (others_of k ys) = λ j. dite (ℕ_discrete j k)
      (λ e. subst (λ (m : ℕ). made_by m rest ≡ made_by m (others_of k ys)) (sym e)
      (made-others-same k (x ∷ xs) ∙ sym (made-others-same k ys)))
      (λ d. made-others-other j k (x ∷ xs) d ∙ each j ∙ sym (made-others-other j k ys d)) in
      let rests : IsPermutation rest (others_of k ys) = same_within n rest (others_of k ys) (omega (arith, shorter)) same_rest in
      let first : IsPermutation (x ∷ xs) (made_by k (x ∷ xs) ++ rest) = IsPermutation-filter_both is other (λ e. refl) (x ∷ xs) in
      let last : IsPermutation ys (made_by k ys ++ others_of k ys) = IsPermutation-filter_both is other (λ e. refl) ys in
      let mid : IsPermutation (made_by k (x ∷ xs) ++ rest) (made_by k ys ++ others_of k ys) =
      subst (λ (z : List (ℕ × V)). IsPermutation (z ++ rest) (made_by k ys ++ others_of k ys)) (sym (each k))
      (IsPermutation-append_right (made_by k ys) rest (others_of k ys) rests) in
      IsPermutation-trans (x ∷ xs) (made_by k (x ∷ xs) ++ rest) ys first
      (IsPermutation-trans (made_by k (x ∷ xs) ++ rest) (made_by k ys ++ others_of k ys) ys mid
      (IsPermutation-sym ys (made_by k ys ++ others_of k ys) last))

  -- where each number has the same visits, both are the same but for the order
  pub same_visits : (xs ys : List (ℕ × V)) → ((k : ℕ) → visits_to k xs ≡ visits_to k ys) → IsPermutation xs ys
  same_visits xs ys each = same_within (length xs) xs ys (omega arith)
      (λ k. numbered-by k xs ∙ ap (map (λ (v : V). (k, v))) (each k) ∙ sym (numbered-by k ys))
