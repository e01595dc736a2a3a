-- The targets that are read are within their range.
use Rattle.std.proofs.Common.{◌≡◌, ℕ, ◌+◌, ◌≤◌, ◌&&◌, nat_le, Bool, true, false, List, [], ◌∷◌, Option, Some, None, Result, Ok, Err, if◌then◌else◌, inl, inr, refl, ap, arith}
use Rattle.std.proofs.lemmas.Bool.{and_parts}
use Rattle.std.proofs.lemmas.Bool.Decides.{nat_tests}
use Rattle.std.specs.List.{list_all}
use Rattle.serde_json.specs.Data.{Num, unsigned, negative, float, Data, Items, no_items, item}
use Rattle.serde_json.specs.Find.{as_number}
use Rattle.stock_nums.specs.Targets.{is_target}
use Rattle.stock_nums.specs.declared.cause.Target.{Target}
use Rattle.stock_model.specs.declared.read_faults.FieldName.{FieldName}
use Rattle.stock_model.specs.declared.read_faults.ReadFault.{ReadFault}
use Rattle.stock_model.specs.declared.read_faults.ReadFault.TheVariants.{Limit}
use Rattle.voucher_json.specs.Walks.{GoesOn, Then, IsPresent, Elements, OrNoMemory}
use Rattle.voucher_json.specs.Fields.{number_outcome, IsNumber, IsList}
use Rattle.voucher_json.specs.Records.{target_line}
use Rattle.voucher_json.specs.Tables.{Values, IsLine}

-- a walk that comes to a value has come through a value of its first step
through : {A B : Type 0} (first : Result A ReadFault → Type 0) (next : A → Result B ReadFault → Type 0) (end : B) → Then first next (Ok end) → (value : A) × first (Ok value) × next value (Ok end)
through {A} {B} first next end walk = went walk.outcome walk.is walk.goes_on
  where
    went : (outcome : Result A ReadFault) → first outcome → GoesOn next outcome (Ok end) → (value : A) × first (Ok value) × next value (Ok end)
    went (Ok value) is goes_on = (value, is, goes_on)
    went (Err fault) is goes_on = absurd (cc)

passed : (test : Bool) (m n : ℕ) (fault : ReadFault) → Ok n ≡ (if test then Ok m else Err fault) → (test ≡ true) × (n ≡ m)
passed true m n fault is = (refl, cc)
passed false m n fault is = absurd (cc)

number-within : (least most : ℕ) (name : FieldName) (line n : ℕ) (found : Option Num) → Ok n ≡ number_outcome least most name line found → (least ≤ n) × (n ≤ most)
number-within least most name line n None is = absurd (cc)
number-within least most name line n (Some (unsigned m)) is =
    let both = passed (nat_le least m && nat_le m most) m n (Limit name line) is in
    let tests = and_parts (nat_le least m) (nat_le m most) both.0 in
    let same : n ≡ m = both.1 in
    let low : nat_le least m ≡ true = tests.0 in
    let high : nat_le m most ≡ true = tests.1 in
    (grind (arith, nat_tests), grind (arith, nat_tests))
number-within least most name line n (Some (negative z)) is = absurd (cc)
number-within least most name line n (Some (float x)) is = absurd (cc)

-- the number in a field
field-within : (least most : ℕ) (name : FieldName) (line n : ℕ) (found : Option Data) → IsPresent (IsNumber least most) name line found (Ok n) → (least ≤ n) × (n ≤ most)
field-within least most name line n None is = absurd (cc)
field-within least most name line n (Some value) is = number-within least most name line n (as_number value) is

target-in_range : (target : Target) → 1 ≤ target.voucher.0 → target.voucher.0 ≤ 4_294_967_295 → 1 ≤ target.line → target.line ≤ 100 → is_target target ≡ true
target-in_range target first_record last_record first_line last_line = grind (arith, nat_tests)

-- an element that is read is a target
element-in_range : (name : FieldName) (place : ℕ) (value : Data) (target : Target) → IsLine target_line name place value (Ok target) → is_target target ≡ true
element-in_range name place value target walk =
    let of_object = through _ _ target walk in
    let of_record = through _ _ target of_object.2 in
    let of_line = through _ _ target of_record.2 in
    let of_others = through _ _ target of_line.2 in
    let number = field-within 1 4_294_967_295 _ place of_record.0 _ of_record.1 in
    let line = field-within 1 100 _ place of_line.0 _ of_line.1 in
    let number_is : target.voucher.0 ≡ of_record.0 = ap (λ (v : Values target_line.fields). v.0) of_others.2 in
    let line_is : target.line ≡ of_line.0 = ap (λ (v : Values target_line.fields). v.1.0) of_others.2 in
    target-in_range target (omega (arith, number_is, number.0)) (omega (arith, number_is, number.1)) (omega (arith, line_is, line.0)) (omega (arith, line_is, line.1))

elements-in_range : (name : FieldName) (place : ℕ) (items : Items) (targets : List Target) → Elements (IsLine target_line) name place items (Ok targets) → list_all is_target targets ≡ true
elements-in_range name place no_items targets is = let none : targets ≡ [] = cc in rw none refl
elements-in_range name place (item value values) targets walk =
    let first = through _ _ targets walk in
    let others = through _ _ targets first.2 in
    let same : targets ≡ first.0 ∷ others.0 = cc (others.2) in
    rw (same, element-in_range name place value first.0 first.1) (elements-in_range name (place + 1) values others.0 others.1)

-- so are those of a list in a field
pub targets-in_range : (name : FieldName) (line : ℕ) (found : Option Data) (targets : List Target) → OrNoMemory (IsPresent (IsList (IsLine target_line)) name line found) (Ok targets) → list_all is_target targets ≡ true
targets-in_range name line found targets (inl lacks) = absurd (cc)
targets-in_range name line None targets (inr is) = absurd (cc)
targets-in_range name line (Some value) targets (inr is) = let list = through _ _ targets is in elements-in_range name 1 list.0 targets list.2
