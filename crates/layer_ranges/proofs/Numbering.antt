-- Units by their numbers, found by sums that are known of each place of a list.
use Rattle.std.proofs.Common.{◌≡◌, ℕ, zero, suc, ◌+◌, ◌-◌, ◌<◌, ◌≤◌, inl, inr, Bool, true, false, cond, List, [], ◌∷◌, length, get_or, take, sum_by, ℤ, pos, neg_ℤ, ◌+ℤ◌, ◌<ℤ◌, ◌≤ℤ◌, int_lt, nat_lt, unsigned_abs, Option, Some, None, is_some, IfSome, refl, sym, ap, ap₂, ◌∙◌, subst, arith}
use Rattle.std.specs.List.{find}
use Rattle.std.specs.Option.{option_map}
use Rattle.std.proofs.lemmas.Bool.{false≢true, cases_lt}
use Rattle.std.proofs.lemmas.Bool.Decides.{nat_tests}
use Rattle.std.proofs.lemmas.Int.{ints}
use Rattle.std.proofs.lemmas.List.Sums.{sum_by-cons}
use Rattle.stock_nums.specs.declared.place.Place.{Place}
use Rattle.key_order.specs.declared.change.Change.{Change}
use Rattle.key_order.specs.declared.change.Lack.{Lack}
use Rattle.layer_ranges.specs.Layers.{moved_units, layer_of, layer_from, HoldsUnit}
use Rattle.layer_ranges.specs.declared.layer.Layer.{Layer}

-- what is held with each change of a list, and how many units came before it, are told by its place
pub record AreTold (held : Place → ℤ) (before : Place → ℕ) (begin : ℕ) (cs : List Change) : Type 0 where
  pub with : (k : ℕ) (e : Change) → k < length cs
      → held (get_or cs k e).place ≡ neg_ℤ (pos (begin + sum_by moved_units (take (suc k) cs)))
  pub so_far : (k : ℕ) (e : Change) → k < length cs
      → before (get_or cs k e).place ≡ begin + sum_by moved_units (take k cs)

-- of all but the first
AreTold-rest : (held : Place → ℤ) (before : Place → ℕ) (begin : ℕ) (c : Change) (cs : List Change)
    → AreTold held before begin (c ∷ cs) → AreTold held before (begin + moved_units c) cs
AreTold-rest held before begin c cs told =
    record {
      with = λ k e l.
          let all = told.with (suc k) e (omega (arith, l)) in
          let parts = sum_by-cons moved_units c (take (suc k) cs) in
          all ∙ ap (λ (n : ℕ). neg_ℤ (pos n)) (omega (arith, parts));
      so_far = λ k e l.
          let all = told.so_far (suc k) e (omega (arith, l)) in
          let parts = sum_by-cons moved_units c (take k cs) in
          omega (arith, all, parts);
    }

-- the first, with which so many units moved
AreTold-first : (held : Place → ℤ) (before : Place → ℕ) (begin : ℕ) (c : Change) (cs : List Change)
    → AreTold held before begin (c ∷ cs)
    → (held c.place ≡ neg_ℤ (pos (begin + moved_units c))) × (before c.place ≡ begin)
AreTold-first held before begin c cs told =
    let one : sum_by moved_units (take (suc zero) (c ∷ cs)) ≡ moved_units c = omega arith in
    let with : held c.place ≡ neg_ℤ (pos (begin + sum_by moved_units (take (suc zero) (c ∷ cs)))) =
    told.with zero c (omega arith) in
    let so_far : before c.place ≡ begin + 0 = told.so_far zero c (omega arith) in
    (with ∙ ap (λ (n : ℕ). neg_ℤ (pos (begin + n))) one, omega (arith, so_far))

-- more units moved with the change than the number says
abbrev pub exceeds : (Place → ℤ) → ℕ → Change → Bool
exceeds held unit c = int_lt (pos unit +ℤ held c.place) (pos 0)

-- by how many
abbrev pub excess_at : (Place → ℤ) → ℕ → Change → Lack
excess_at held unit c = record { place = c.place; lacking = record { 0 = unsigned_abs (pos unit +ℤ held c.place) } }

-- the units of the change that is told so
abbrev pub layer_by : (Place → ℕ) → ℕ → Lack → Layer
layer_by before unit lack =
    record {
      place = lack.place;
      begin = record { 0 = before lack.place };
      qty = record { 0 = unit + lack.lacking.0 - before lack.place };
    }

-- more units than the number says, or not
exceeds-true : (held : Place → ℤ) (unit end : ℕ) (c : Change) → held c.place ≡ neg_ℤ (pos end) → unit < end
    → exceeds held unit c ≡ true
exceeds-true held unit end c is less =
    let below : (pos unit +ℤ held c.place) <ℤ pos 0 = omega (arith, ints, is, less) in
    below_zero (pos unit +ℤ held c.place) below
  where
    below_zero : (z : ℤ) → z <ℤ pos 0 → int_lt z (pos 0) ≡ true
    below_zero z below = grind (arith, ints)

exceeds-false : (held : Place → ℤ) (unit end : ℕ) (c : Change) → held c.place ≡ neg_ℤ (pos end) → end ≤ unit
    → exceeds held unit c ≡ false
exceeds-false held unit end c is upto =
    let enough : pos 0 ≤ℤ (pos unit +ℤ held c.place) = omega (arith, ints, is, upto) in
    not_below_zero (pos unit +ℤ held c.place) enough
  where
    not_below_zero : (z : ℤ) → pos 0 ≤ℤ z → int_lt z (pos 0) ≡ false
    not_below_zero z enough = grind (arith, ints)

nat_lt-true : (a b : ℕ) → a < b → nat_lt a b ≡ true
nat_lt-true a b less = grind (arith, nat_tests)

nat_lt-false : (a b : ℕ) → b ≤ a → nat_lt a b ≡ false
nat_lt-false a b upto = grind (arith, nat_tests)

-- the units of the first change, by what they exceed the number
layer_by-first : (held : Place → ℤ) (before : Place → ℕ) (begin unit : ℕ) (c : Change)
    → held c.place ≡ neg_ℤ (pos (begin + moved_units c)) → before c.place ≡ begin → unit < begin + moved_units c
    → layer_of begin c ≡ layer_by before unit (excess_at held unit c)
layer_by-first held before begin unit c with so_far less =
    let size : moved_units c ≡ unit + unsigned_abs (pos unit +ℤ held c.place) - before c.place =
    omega (arith, ints, with, so_far, less) in
    ap₂ (λ (n m : ℕ). record { place = c.place; begin = record { 0 = n }; qty = record { 0 = m } }) (sym so_far) size

-- the units among which the one of a number is are those of the first change with which more moved
pub layer_from-find : (held : Place → ℤ) (before : Place → ℕ) (cs : List Change) (begin unit : ℕ)
    → AreTold held before begin cs
    → layer_from cs begin unit ≡ option_map (layer_by before unit)
    (option_map (excess_at held unit) (find (exceeds held unit) cs))
layer_from-find held before [] begin unit told = refl
layer_from-find held before (c ∷ cs) begin unit told =
    let first = AreTold-first held before begin c cs told in
    elim (cases_lt unit (begin + moved_units c)) [
      | inl less ↦
          let passes = exceeds-true held unit (begin + moved_units c) c first.0 less in
          let inside = nat_lt-true unit (begin + moved_units c) less in
          rw (inside, passes) (ap (λ (l : Layer). Some l) (layer_by-first held before begin unit c first.0 first.1 less))
      | inr upto ↦
          let fails = exceeds-false held unit (begin + moved_units c) c first.0 upto in
          let past = nat_lt-false unit (begin + moved_units c) upto in
          rw (past, fails)
          (layer_from-find held before cs (begin + moved_units c) unit (AreTold-rest held before begin c cs told))
    ]

-- it exceeds the number by no more than all units do, and its units began no later
abbrev pub IsExcess : (Place → ℕ) → ℕ → ℕ → Lack → Type 0
IsExcess before unit all lack = (before lack.place ≤ unit + lack.lacking.0) × (unit + lack.lacking.0 ≤ all)

IsExcess-some : (before : Place → ℕ) (unit few many : ℕ) → few ≡ many → (found : Option Lack)
    → IfSome found (IsExcess before unit few) → IfSome found (IsExcess before unit many)
IsExcess-some before unit few many same found h = subst (λ (n : ℕ). IfSome found (IsExcess before unit n)) same h

pub excess-bound : (held : Place → ℤ) (before : Place → ℕ) (cs : List Change) (begin unit : ℕ)
    → AreTold held before begin cs
    → IfSome (option_map (excess_at held unit) (find (exceeds held unit) cs))
    (IsExcess before unit (begin + sum_by moved_units cs))
excess-bound held before [] begin unit told = tt
excess-bound held before (c ∷ cs) begin unit told =
    let first = AreTold-first held before begin c cs told in
    let parts = sum_by-cons moved_units c cs in
    elim (cases_lt unit (begin + moved_units c)) [
      | inl less ↦
          let passes = exceeds-true held unit (begin + moved_units c) c first.0 less in
          rw passes (omega (arith, ints, first.0, first.1, less), omega (arith, ints, first.0, less, parts))
      | inr upto ↦
          let fails = exceeds-false held unit (begin + moved_units c) c first.0 upto in
          let rest = excess-bound held before cs (begin + moved_units c) unit (AreTold-rest held before begin c cs told) in
          rw fails
          (IsExcess-some before unit ((begin + moved_units c) + sum_by moved_units cs) (begin + sum_by moved_units (c ∷ cs))
          (omega (arith, parts)) (option_map (excess_at held unit) (find (exceeds held unit) cs)) rest)
    ]

-- the unit of the number is among the units that are found
pub layer_from-holds : (cs : List Change) (begin unit : ℕ) → begin ≤ unit → IfSome (layer_from cs begin unit) (HoldsUnit unit)
layer_from-holds [] begin unit begun = tt
layer_from-holds (c ∷ cs) begin unit begun =
    elim (cases_lt unit (begin + moved_units c)) [
      | inl less ↦ let inside = nat_lt-true unit (begin + moved_units c) less in
          rw inside (record { begun = begun; ends_later = less })
      | inr upto ↦ let past = nat_lt-false unit (begin + moved_units c) upto in
          rw past (layer_from-holds cs (begin + moved_units c) unit upto)
    ]

-- none are found where no more units moved than the number says
pub layer_from-none : (cs : List Change) (begin unit : ℕ) → begin + sum_by moved_units cs ≤ unit → layer_from cs begin unit ≡ None
layer_from-none [] begin unit upto = refl
layer_from-none (c ∷ cs) begin unit upto =
    let parts = sum_by-cons moved_units c cs in
    let past = nat_lt-false unit (begin + moved_units c) (omega (arith, parts, upto)) in
    rw past (layer_from-none cs (begin + moved_units c) unit (omega (arith, parts, upto)))

-- and only there
pub layer_from-some : (cs : List Change) (begin unit : ℕ) → begin ≤ unit → layer_from cs begin unit ≡ None
    → begin + sum_by moved_units cs ≤ unit
layer_from-some [] begin unit begun none = omega (arith, begun)
layer_from-some (c ∷ cs) begin unit begun none =
    let parts = sum_by-cons moved_units c cs in
    elim (cases_lt unit (begin + moved_units c)) [
      | inl less ↦
          let found = ap (λ (b : Bool). cond b (Some (layer_of begin c)) (layer_from cs (begin + moved_units c) unit))
          (nat_lt-true unit (begin + moved_units c) less) in
          absurd (false≢true (sym (ap is_some (sym found ∙ none))))
      | inr upto ↦
          let past = nat_lt-false unit (begin + moved_units c) upto in
          let rest = layer_from-some cs (begin + moved_units c) unit upto
          (sym (ap (λ (b : Bool). cond b (Some (layer_of begin c)) (layer_from cs (begin + moved_units c) unit)) past) ∙ none) in
          omega (arith, parts, rest)
    ]
