-- The units of one item in one warehouse among the lines that correct a count.
use Rattle.std.proofs.Common.{◌≡◌, ℕ, ℤ, ◌+◌, Bool, true, false, List, [], ◌∷◌, ◌++◌, sum_by, Option, Some, None, refl, sym, ap, ◌∙◌, arith, unsigned_abs}
use Rattle.std.specs.Prelude.{bytes_eq, ◌&&◌, if◌then◌else◌}
use Rattle.std.specs.Option.{option_map_or}
use Rattle.std.specs.List.{IsDistinct, AllByRecursion, filter_map, cons_option}
use Rattle.std.proofs.lemmas.Bool.Decides.{nat_tests}
use Rattle.std.proofs.lemmas.Bool.{false≢true}
use Rattle.std.proofs.lemmas.List.Sums.{sum_by-append, sum_by-cons}
use Rattle.stock_nums.specs.declared.entry.Key.{Key}
use Rattle.stock_model.specs.declared.records.Record.{Record}
use Rattle.stock_model.specs.Enough.{is_same_key}
use Rattle.stock_model.proofs.Pairwise.{Each}
use Rattle.stock_laws.proofs.TestedSums.{counted}
use Rattle.voucher_import.specs.declared.sheet.CountLine.{CountLine}
use Rattle.stock_count.specs.Corrections.{Correction, correction}
use Rattle.stock_count.specs.Held.{key_with}
use Rattle.stock_count.proofs.KeyCodes.{bytes-self, key-codes}

abbrev pub counted_units : Key → ℕ → Key → ℕ
counted_units key qty other = counted (is_same_key other key) qty

-- the units of a line, if it is of this item in this warehouse
abbrev pub units_for : List Record → Key → Correction → ℕ
units_for journal key c = option_map_or (counted_units key c.qty) (key_with journal c.item c.store) 0

-- the two lines are not of one item and one warehouse
abbrev pub AreApart : CountLine → CountLine → Type 0
AreApart line other = (other.item ≡ line.item) × (other.store ≡ line.store) → ⊥

-- what makes up for a difference, if it passes a test
abbrev pub made : (ℤ → Bool) → (CountLine → ℤ) → CountLine → Option Correction
made test diff line = if test (diff line) then Some (correction line (diff line)) else None

abbrev pub same_codes : CountLine → CountLine → Bool
same_codes line other = bytes_eq line.item other.item && bytes_eq line.store other.store

codes-self : (a b c d : List ℕ) → c ≡ a → d ≡ b → (bytes_eq a c && bytes_eq b d) ≡ true
codes-self a b c d first second =
    ap (λ (x : List ℕ). bytes_eq a x && bytes_eq b d) first ∙ ap (λ (x : List ℕ). bytes_eq a a && bytes_eq b x) second
    ∙ ap (λ (x : Bool). x && bytes_eq b b) (bytes-self a) ∙ bytes-self b

apart-after : (line other : CountLine) → same_codes line other ≡ false → AreApart line other
apart-after line other differ same = false≢true (sym differ ∙ codes-self line.item line.store other.item other.store same.0 same.1)

apart-before : (line other : CountLine) → same_codes other line ≡ false → AreApart line other
apart-before line other differ same = false≢true (sym differ ∙ codes-self other.item other.store line.item line.store (sym same.0) (sym same.1))

Each-from_recursion : {X : Type 0} (P Q : X → Type 0) → ((x : X) → P x → Q x) → (xs : List X) → AllByRecursion P xs → Each Q xs
Each-from_recursion P Q f [] all = tt
Each-from_recursion P Q f (x ∷ xs) all = (f x all.0, Each-from_recursion P Q f xs all.1)

recursion-at : {X : Type 0} (P : X → Type 0) (front : List X) (x : X) (rest : List X) → AllByRecursion P (front ++ x ∷ rest) → P x
recursion-at P [] x rest all = all.0
recursion-at P (y ∷ front) x rest all = recursion-at P front x rest all.1

-- each line of a count is apart from those before it and those after it
pub apart-rest : (front : List CountLine) (line : CountLine) (rest : List CountLine) → IsDistinct same_codes (front ++ line ∷ rest) → Each (AreApart line) rest
unfolding IsDistinct
apart-rest [] line rest keys = Each-from_recursion (λ other. same_codes line other ≡ false) (AreApart line) (apart-after line) rest keys.0
apart-rest (x ∷ front) line rest keys = apart-rest front line rest keys.1

pub apart-front : (front : List CountLine) (line : CountLine) (rest : List CountLine) → IsDistinct same_codes (front ++ line ∷ rest) → Each (AreApart line) front
unfolding IsDistinct
apart-front [] line rest keys = tt
apart-front (x ∷ front) line rest keys =
    (apart-before line x (recursion-at (λ other. same_codes x other ≡ false) front line rest keys.0), apart-front front line rest keys.1)

key-self : (key : Key) → is_same_key key key ≡ true
key-self key = grind (arith, nat_tests)

counted-nothing : (b : Bool) → counted b 0 ≡ 0
counted-nothing true = refl
counted-nothing false = refl

module _ (journal : List Record) (key : Key) (test : ℤ → Bool) (diff : CountLine → ℤ) where
  abbrev units_at : CountLine → ℕ
  units_at line = counted (test (diff line)) (units_for journal key (correction line (diff line)))

  sum-made : (lines : List CountLine) → sum_by (units_for journal key) (filter_map (made test diff) lines) ≡ sum_by units_at lines
  sum-made [] = refl
  sum-made (x ∷ xs) =
      let rest = filter_map (made test diff) xs in
      let c = correction x (diff x) in
      let own : sum_by (units_for journal key) (cons_option (made test diff x) rest) ≡ units_at x + sum_by (units_for journal key) rest =
      elim (test (diff x)) as (λ b. sum_by (units_for journal key) (cons_option (if b then Some c else None) rest) ≡ counted b (units_for journal key c) + sum_by (units_for journal key) rest) [
        | true ↦ sum_by-cons (units_for journal key) c rest
        | false ↦ omega arith
      ] in
      omega (arith, own, sum_by-cons units_at x xs, sum-made xs)

  others : (line : CountLine) → key_with journal line.item line.store ≡ Some key → (xs : List CountLine) → Each (AreApart line) xs → sum_by units_at xs ≡ 0
  others line is [] apart = refl
  others line is (x ∷ xs) apart =
      let none : units_for journal key (correction x (diff x)) ≡ 0 =
      (elim (key_with journal x.item x.store) as (λ o. key_with journal x.item x.store ≡ o → option_map_or (counted_units key (unsigned_abs (diff x))) o 0 ≡ 0) [
        | None ↦ λ unknown. refl
        | Some other ↦ λ known.
            (elim (is_same_key other key) as (λ b. is_same_key other key ≡ b → counted b (unsigned_abs (diff x)) ≡ 0) [
              | true ↦ λ same. absurd (apart.0 (key-codes journal line.item line.store x.item x.store key other is known same))
              | false ↦ λ differ. refl
            ]) refl
      ]) refl in
      omega (arith, sum_by-cons units_at x xs, ap (counted (test (diff x))) none ∙ counted-nothing (test (diff x)), others line is xs apart.1)

  -- among the lines of a count's correction one alone is of a line's item and warehouse
  pub units-own : (front : List CountLine) (line : CountLine) (rest : List CountLine) → key_with journal line.item line.store ≡ Some key
      → Each (AreApart line) front → Each (AreApart line) rest
      → sum_by (units_for journal key) (filter_map (made test diff) (front ++ line ∷ rest)) ≡ counted (test (diff line)) (unsigned_abs (diff line))
  units-own front line rest is before after =
      let own : units_at line ≡ counted (test (diff line)) (unsigned_abs (diff line)) =
      ap (λ (o : Option Key). counted (test (diff line)) (option_map_or (counted_units key (unsigned_abs (diff line))) o 0)) is
      ∙ ap (λ (b : Bool). counted (test (diff line)) (counted b (unsigned_abs (diff line)))) (key-self key) in
      omega (
        arith,
        sum-made (front ++ line ∷ rest),
        sum_by-append units_at front (line ∷ rest),
        sum_by-cons units_at line rest,
        others line is front before,
        others line is rest after,
        own,
      )
