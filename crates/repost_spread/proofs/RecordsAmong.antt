-- Whether one of some movements in the order of their records is of a record.
use Rattle.std.proofs.Common.{◌≡◌, ℕ, ◌<◌, ◌≤◌, Bool, true, false, ◌==◌, List, [], ◌∷◌, length, get_or, nat_lt, Contains, inl, inr, refl, sym, ap, ◌∙◌, subst, arith}
use Rattle.std.specs.List.{AllWithin}
use Rattle.std.proofs.lemmas.Bool.{false≢true, or_left, or_right, or_cases}
use Rattle.std.proofs.lemmas.Bool.Decides.{nat_tests}
use Rattle.std.proofs.lemmas.List.{get_or_default}
use Rattle.stock_nums.specs.declared.entry.Entry.{Entry}
use Rattle.stock_model.proofs.Pairwise.{Contains-cases, Contains-first, Contains-later}
use Rattle.repost_laws.proofs.Turns.{false-from}
use Rattle.repost_spread.specs.Touches.{record_of, is_record_of, has_record, AreByRecord}

same-number : (k : ℕ) → (k == k) ≡ true
same-number k = grind (arith, nat_tests)

number-same : (k m : ℕ) → (k == m) ≡ true → k ≡ m
number-same k m h = grind (arith, nat_tests)

-- one of them is of the record of each of them
pub has-own : (es : List Entry) (e : Entry) → Contains es e → has_record es (record_of e) ≡ true
has-own [] e held = absurd (omega (arith, held.1))
has-own (f ∷ es) e held =
    elim (Contains-cases f es e held) [
      | inl same ↦
          or_left (is_record_of (record_of e) f) (has_record es (record_of e))
          (subst (λ (g : Entry). is_record_of (record_of g) f ≡ true) same (same-number (record_of f)))
      | inr later ↦ or_right (is_record_of (record_of e) f) (has_record es (record_of e)) (has-own es e later)
    ]

-- and where one is of a record, it is among them
pub record HasOne (es : List Entry) (k : ℕ) : Type 0 where
  pub e : Entry
  pub held : Contains es e
  pub of : record_of e ≡ k

pub has-one : (es : List Entry) (k : ℕ) → has_record es k ≡ true → HasOne es k
has-one [] k has = absurd (false≢true has)
has-one (f ∷ es) k has =
    elim (or_cases (is_record_of k f) (has_record es k) has) [
      | inl own ↦ record { e = f; held = Contains-first f es; of = number-same (record_of f) k own }
      | inr later ↦ let one = has-one es k later in record { e = one.e; held = Contains-later f es one.e one.held; of = one.of }
    ]

never-below : (m k : ℕ) → m ≡ k → nat_lt m k ≡ true → ⊥
never-below m k same below = grind (arith, nat_tests)

not-below : (m k : ℕ) → nat_lt m k ≡ false → k ≤ m
not-below m k h = grind (arith, nat_tests)

-- of movements in the order of their records those before an index come before the record, and those from it on do not
module _ (es : List Entry) (k i : ℕ) (by_record : AreByRecord es) (before : AllWithin (λ e. nat_lt (record_of e) k ≡ true) es 0 i)
    (from : AllWithin (λ e. nat_lt (record_of e) k ≡ false) es i (length es)) where
  -- so one that is of the record does not stand before the index
  not-before : (one : HasOne es k) → one.held.0 < i → ⊥
  not-before one early =
      never-below (record_of one.e) k one.of
      (subst (λ (e : Entry). nat_lt (record_of e) k ≡ true) one.held.2 (before one.held.0 one.e (omega arith) early))

  -- none is where all stand before it
  pub none-of : length es ≤ i → has_record es k ≡ false
  none-of all = false-from (has_record es k) (λ has. let one = has-one es k has in not-before one (omega (arith, one.held.1, all)))

  -- and one is exactly where the one at the index is
  pub one-of : (e : Entry) → i < length es → e ≡ get_or es i e → (record_of e == k) ≡ has_record es k
  one-of e within is = by_cases (record_of e == k) refl
    where
      none : (record_of e == k) ≡ false → HasOne es k → ⊥
      none other one =
          let there : get_or es i one.e ≡ e = get_or_default es i one.e e within ∙ sym is in
          let onward : i ≤ one.held.0 = omega (arith, not-before one) in
          let most : record_of (get_or es i one.e) ≤ record_of (get_or es one.held.0 one.e) = by_record i one.held.0 one.e onward one.held.1 in
          let upto : record_of e ≤ k =
          omega (arith, most, ap (λ (f : Entry). record_of f) there, ap (λ (f : Entry). record_of f) one.held.2, one.of) in
          let least : k ≤ record_of e =
          not-below (record_of e) k (subst (λ (f : Entry). nat_lt (record_of f) k ≡ false) (sym is) (from i e (omega arith) within)) in
          let same : record_of e ≡ k = omega (arith, upto, least) in
          false≢true (sym other ∙ ap (λ (m : ℕ). m == k) same ∙ same-number k)

      by_cases : (b : Bool) → (record_of e == k) ≡ b → (record_of e == k) ≡ has_record es k
      by_cases true own =
          own ∙ sym (subst (λ (m : ℕ). has_record es m ≡ true) (number-same (record_of e) k own) (has-own es e (i, within, sym is)))
      by_cases false other = other ∙ sym (false-from (has_record es k) (λ has. none other (has-one es k has)))
