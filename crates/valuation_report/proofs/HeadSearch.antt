-- Heads in the order of their numbers are found where their numbers stop being below the one that is sought.
use Rattle.std.proofs.Common.{◌≡◌, ℕ, zero, suc, ◌<◌, Bool, true, false, cond, List, [], ◌∷◌, length, get_or, Some, None, refl, ap, ◌∙◌, subst, sym, arith, inl, inr}
use Rattle.std.specs.Prelude.{nat_lt, unwrap_or, AllPairs}
use Rattle.std.specs.Option.{option_map}
use Rattle.std.specs.List.{find, list_all}
use Rattle.std.specs.List.Sorted.{IsPartitionedBy, IsPartitionPoint}
use Rattle.std.proofs.lemmas.Bool.{cases_lt}
use Rattle.std.proofs.lemmas.Bool.Decides.{nat_tests}
use Rattle.stock_nums.specs.Codes.{is_code_byte}
use Rattle.stock_nums.specs.declared.head.Head.{Head}
use Rattle.stock_model.specs.Books.{IsHeadBefore, is_named}
use Rattle.stock_model.specs.Masters.{has_number, head_code, code_of}
use Rattle.stock_laws.proofs.TestedSums.{both-first, both-second}

-- the head's number is below
abbrev pub is_below : ℕ → Head → Bool
is_below n head = nat_lt head.number.0 n

below-back : (a b : Head) (n : ℕ) → IsHeadBefore a b → is_below n b ≡ true → is_below n a ≡ true
below-back a b n before h = grind (arith, nat_tests)

-- the heads are parted by it
pub are_parted : (n : ℕ) (heads : List Head) → AllPairs IsHeadBefore heads → IsPartitionedBy (is_below n) heads
are_parted n heads order i j d le within passes =
    elim (cases_lt i j) [
      | inl before ↦ below-back (get_or heads i d) (get_or heads j d) n (order i j d before within) passes
      | inr late ↦ let same : j ≡ i = omega arith in subst (λ k. is_below n (get_or heads k d) ≡ true) same passes
    ]

-- the first head that passes
find_there : (p : Head → Bool) (heads : List Head) (i : ℕ) (d : Head) → ((k : ℕ) → k < i → p (get_or heads k d) ≡ false) → i < length heads → p (get_or heads i d) ≡ true → find p heads ≡ Some (get_or heads i d)
find_there p [] i d none within passes = absurd (omega (arith, within))
find_there p (head ∷ heads) zero d none within passes = ap (λ b. cond b (Some head) (find p heads)) passes
find_there p (head ∷ heads) (suc i) d none within passes =
    ap (λ b. cond b (Some head) (find p heads)) (none zero (omega arith))
    ∙ find_there p heads i d (λ k lt. none (suc k) (omega arith)) (omega (arith, within)) passes

find_nowhere : (p : Head → Bool) (heads : List Head) → ((k : ℕ) (d : Head) → k < length heads → p (get_or heads k d) ≡ false) → find p heads ≡ None
find_nowhere p [] none = refl
find_nowhere p (head ∷ heads) none =
    ap (λ b. cond b (Some head) (find p heads)) (none zero head (omega arith))
    ∙ find_nowhere p heads (λ k d lt. none (suc k) d (omega arith))

below-other : (head : Head) (n : ℕ) → is_below n head ≡ true → has_number n head ≡ false
below-other head n h = grind (arith, nat_tests)

above-other : (a b : Head) (n : ℕ) → is_below n a ≡ false → IsHeadBefore a b → has_number n b ≡ false
above-other a b n h before = grind (arith, nat_tests)

has_number-is : (head : Head) (n : ℕ) → head.number.0 ≡ n → has_number n head ≡ true
has_number-is head n is = grind (arith, nat_tests)

has_number-is_not : (head : Head) (n : ℕ) → (head.number.0 ≡ n → ⊥) → has_number n head ≡ false
has_number-is_not head n is_not = grind (arith, nat_tests)

-- the heads below the number come first, and those that are not come after them
abbrev pub Parts : ℕ → List Head → ℕ → Type 0
Parts n heads i = IsPartitionPoint (λ head. is_below n head ≡ true) (λ head. is_below n head ≡ false) heads i

-- the head with the number is where they part
pub found : (n : ℕ) (heads : List Head) (i : ℕ) (head : Head) → Parts n heads i → i < length heads → ((d : Head) → head ≡ get_or heads i d) → head.number.0 ≡ n → Some head ≡ find (has_number n) heads
found n heads i head parted within here is =
    sym
    (find_there (has_number n) heads i head (λ k lt. below-other (get_or heads k head) n (parted.0 k head (omega arith) lt)) within
    (subst (λ h. has_number n h ≡ true) (here head) (has_number-is head n is))
    ∙ ap Some (sym (here head)))

-- or none has it
pub not_found : (n : ℕ) (heads : List Head) (i : ℕ) → AllPairs IsHeadBefore heads → Parts n heads i → ((d : Head) → i < length heads → has_number n (get_or heads i d) ≡ false) → None ≡ find (has_number n) heads
not_found n heads i order parted other =
    sym
    (find_nowhere (has_number n) heads
    (λ k d within. elim (cases_lt k i) [
      | inl front ↦ below-other (get_or heads k d) n (parted.0 k d (omega arith) front)
      | inr back ↦ elim (cases_lt i k) [
        | inl past ↦ above-other (get_or heads i d) (get_or heads k d) n (parted.1 i d (omega arith) (omega arith)) (order i k d past within)
        | inr at ↦ let same : i ≡ k = omega arith in subst (λ j. has_number n (get_or heads j d) ≡ false) same (other d (omega arith))
      ]
    ]))

-- no other head has it, where the one there does not
pub other_number : (n : ℕ) (heads : List Head) (i : ℕ) (head : Head) → ((d : Head) → head ≡ get_or heads i d) → (head.number.0 ≡ n → ⊥) → (d : Head) → i < length heads → has_number n (get_or heads i d) ≡ false
other_number n heads i head here is_not d within = subst (λ h. has_number n h ≡ false) (here d) (has_number-is_not head n is_not)

-- each head's code is made of a code's bytes
bytes-of_named : (head : Head) → is_named head ≡ true → list_all is_code_byte head.code ≡ true
bytes-of_named head named = grind (arith, nat_tests)

found-plain : (n : ℕ) (heads : List Head) → list_all is_named heads ≡ true → list_all is_code_byte (unwrap_or (option_map head_code (find (has_number n) heads)) []) ≡ true
found-plain n [] named = refl
found-plain n (head ∷ heads) named =
    elim (has_number n head) as (λ b. list_all is_code_byte (unwrap_or (option_map head_code (cond b (Some head) (find (has_number n) heads))) []) ≡ true) [
      | true ↦ bytes-of_named head (both-first (is_named head) (list_all is_named heads) named)
      | false ↦ found-plain n heads (both-second (is_named head) (list_all is_named heads) named)
    ]

-- so is the code of a number, if only the empty one
pub code_of-plain : (n : ℕ) (heads : List Head) → list_all is_named heads ≡ true → list_all is_code_byte (code_of heads n) ≡ true
code_of-plain n heads named = found-plain n heads named
