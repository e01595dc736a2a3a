-- Sums of what items count.
use Rattle.std.proofs.Common.{◌≡◌, ℕ, zero, suc, ◌+◌, ◌-◌, ◌<◌, ◌≤◌, ℤ, ◌+ℤ◌, ◌≤ℤ◌, unsigned_abs, slice_index_or, List, [], ◌∷◌, ◌++◌, length, map, take, refl, sym, ap, ◌∙◌, subst, arith, inl, inr}
use Rattle.std.proofs.lemmas.Bool.{cases_lt}
use Rattle.std.proofs.lemmas.Int.{ints}
use Rattle.std.proofs.Math.Seq.{take-append-add}
use Rattle.std.proofs.lemmas.List.{take-append-le, take-map}
use Rattle.block_list.specs.Sums.{total}

-- of two lists
pub total-append : {T : Type 0} (w : T → ℤ) (xs ys : List T) → total w (xs ++ ys) ≡ total w xs +ℤ total w ys
total-append w [] ys = omega (arith, ints)
total-append w (x ∷ xs) ys = omega (arith, ints, total-append w xs ys)

-- of the first ones, with one more
total-next : {T : Type 0} (w : T → ℤ) (xs : List T) (i : ℕ) (x : T) → i < length xs → x ≡ slice_index_or xs i x
    → total w (take (suc i) xs) ≡ total w (take i xs) +ℤ w x
total-next w [] i x within is = absurd (omega (arith, within))
total-next w (y ∷ ys) zero x within is = omega (arith, ints, ap w is)
total-next w (y ∷ ys) (suc i) x within is =
    let rest : total w (take (suc i) ys) ≡ total w (take i ys) +ℤ w x = total-next w ys i x (omega (arith, within)) is in
    let all : w y +ℤ total w (take (suc i) ys) ≡ (w y +ℤ total w (take i ys)) +ℤ w x = omega (arith, ints, rest) in
    all

pub total_more : {T : Type 0} (w : T → ℤ) (xs : List T) (i : ℕ) (x : T) → i < length xs → x ≡ slice_index_or xs i x
    → total w (take (i + 1) xs) ≡ total w (take i xs) +ℤ w x
total_more w xs i x within is =
    let one : suc i ≡ i + 1 = omega arith in
    subst (λ (n : ℕ). total w (take n xs) ≡ total w (take i xs) +ℤ w x) one (total-next w xs i x within is)

-- a sum of two numbers is no larger than both together
pub abs-add : (a b : ℤ) → unsigned_abs (a +ℤ b) ≤ unsigned_abs a + unsigned_abs b
abs-add a b = omega (arith, ints)

-- what is below all fronts so far, and below the next one, is below all of them
pub low-more : {T : Type 0} (w : T → ℤ) (xs : List T) (i : ℕ) (old new : ℤ) → ((k : ℕ) → k ≤ i → old ≤ℤ total w (take k xs)) → new ≤ℤ old
    → new ≤ℤ total w (take (i + 1) xs) → (k : ℕ) → k ≤ i + 1 → new ≤ℤ total w (take k xs)
low-more w xs i old new so_far falls last k within =
    elim (cases_lt i k) [
      | inl more ↦ let is : i + 1 ≡ k = omega (arith, more, within) in subst (λ (n : ℕ). new ≤ℤ total w (take n xs)) is last
      | inr less ↦ let before = so_far k less in omega (arith, ints, falls, before)
    ]

-- what is below all fronts of a list, and with the sum of the list below those of another one, is below all of both
pub low-both : {T : Type 0} (w : T → ℤ) (xs ys : List T) (first sum second low : ℤ) → ((k : ℕ) → first ≤ℤ total w (take k xs)) → sum ≡ total w xs
    → ((k : ℕ) → second ≤ℤ total w (take k ys)) → low ≤ℤ first → low ≤ℤ (sum +ℤ second) → (k : ℕ) → low ≤ℤ total w (take k (xs ++ ys))
low-both w xs ys first sum second low fronts is later one two k =
    elim (cases_lt (length xs) k) [
      | inl more ↦
          let m = k - length xs in
          let at : k ≡ length xs + m = omega (arith, more) in
          let whole : total w (take k (xs ++ ys)) ≡ total w xs +ℤ total w (take m ys) =
          ap (λ n. total w (take n (xs ++ ys))) at ∙ ap (total w) (take-append-add xs ys m) ∙ total-append w xs (take m ys) in
          omega (arith, ints, whole, is, two, later m)
      | inr within ↦
          let front : total w (take k (xs ++ ys)) ≡ total w (take k xs) = ap (total w) (take-append-le k xs ys within) in
          omega (arith, ints, front, one, fronts k)
    ]

-- the sum reads of items what each counts, and nothing else
total-map : {T : Type 0} (w : T → ℤ) (xs : List T) → total (λ n. n) (map w xs) ≡ total w xs
total-map w [] = refl
total-map w (x ∷ xs) = ap (λ (n : ℤ). w x +ℤ n) (total-map w xs)

-- so the fronts of items that count the same have the same sums, and both lists too
pub fronts-same : {T : Type 0} (w : T → ℤ) (xs ys : List T) → map w xs ≡ map w ys → (k : ℕ) → total w (take k xs) ≡ total w (take k ys)
fronts-same w xs ys same k =
    sym (total-map w (take k xs)) ∙ ap (total (λ n. n)) (sym (take-map w k xs) ∙ ap (take k) same ∙ take-map w k ys) ∙ total-map w (take k ys)

pub total-same : {T : Type 0} (w : T → ℤ) (xs ys : List T) → map w xs ≡ map w ys → total w xs ≡ total w ys
total-same w xs ys same = sym (total-map w xs) ∙ ap (total (λ n. n)) same ∙ total-map w ys
