-- What look-ups into a value say of the forms of fields.
use Rattle.std.proofs.Common.{◌≡◌, ℕ, ◌<◌, ◌≤◌, ◌||◌, Bool, not, List, [], ◌∷◌, length, Option, Some, Result, Ok, Err, String, Global, string_bytes, if◌then◌else◌, refl, ap, arith}
use Rattle.std.proofs.lemmas.Bool.Decides.{nat_tests}
use Rattle.std.specs.List.{list_any}
use Rattle.std.specs.Map as entry_map
use Rattle.std.specs.Prelude.{⊤}
use Rattle.serde_json.specs.Data.{Data, Items}
use Rattle.serde_json.specs.Find.{as_object}
use Rattle.serde_json.specs.View.{items_view, members_view}
use Rattle.serde_json.specs.declared.value.Value.{Value}
use Rattle.stock_model.specs.declared.read_faults.FieldName.{FieldName}
use Rattle.stock_model.specs.declared.read_faults.FieldName.TheVariants as field
use Rattle.stock_model.specs.declared.read_faults.ReadFault.{ReadFault}
use Rattle.stock_model.specs.declared.read_faults.ReadFault.TheVariants.{BadField, Limit}
use Rattle.voucher_json.specs.Fields.{items_count, list_outcome, keys_of, is_named, NoOther}

items_count-view : (values : List Value) → items_count (items_view values) ≡ length values
items_count-view [] = refl
items_count-view (value ∷ values) = omega (arith, items_count-view values)

-- a list of as many elements
pub count_within : (name : FieldName) (line : ℕ) (items : Items) (count : ℕ) → items_count items ≡ count → 1 ≤ count → count ≤ 100 → list_outcome name line (Some items) ≡ Ok items
count_within name line items count is least most = rw is (grind (arith, nat_tests))

count_none : (name : FieldName) (line : ℕ) (items : Items) (count : ℕ) → items_count items ≡ count → count ≡ 0 → list_outcome name line (Some items) ≡ Err (Limit name line)
count_none name line items count is none = rw is (grind (arith, nat_tests))

count_over : (name : FieldName) (line : ℕ) (items : Items) (count : ℕ) → items_count items ≡ count → 100 < count → list_outcome name line (Some items) ≡ Err (Limit name line)
count_over name line items count is over = rw is (grind (arith, nat_tests))

-- a list of 1 to 100 elements
pub list_within : (name : FieldName) (line : ℕ) (found : Option Items) (values : List Value) → Some (items_view values) ≡ found → 1 ≤ length values → length values ≤ 100
    → list_outcome name line found ≡ Ok (items_view values)
list_within name line found values is least most = rw (← is) (count_within name line (items_view values) (length values) (items_count-view values) least most)

-- a list of none
pub list_none : (name : FieldName) (line : ℕ) (found : Option Items) (values : List Value) → Some (items_view values) ≡ found → length values ≡ 0 → list_outcome name line found ≡ Err (Limit name line)
list_none name line found values is none = rw (← is) (count_none name line (items_view values) (length values) (items_count-view values) none)

-- a list of more
pub list_over : (name : FieldName) (line : ℕ) (found : Option Items) (values : List Value) → Some (items_view values) ≡ found → 100 < length values → list_outcome name line found ≡ Err (Limit name line)
list_over name line found values is over = rw (← is) (count_over name line (items_view values) (length values) (items_count-view values) over)

-- the keys of a map are those of the object that it shows
any_key : (names : List FieldName) (entries : List (String Global × Value))
    → list_any (λ key. not (is_named names key)) (keys_of (members_view entries)) ≡ list_any (λ key. not (is_named names (string_bytes key))) (entry_map.keys_of entries)
any_key names [] = refl
any_key names (entry ∷ entries) = ap (λ others. not (is_named names (string_bytes entry.0)) || others) (any_key names entries)

-- an object has no other field where its map has no other key
pub other_said : (names : List FieldName) (line : ℕ) (value : Data) (entries : List (String Global × Value)) (other : Bool) (end : Result ⊤ ReadFault) → Some (members_view entries) ≡ as_object value
    → other ≡ list_any (λ key. not (is_named names (string_bytes key))) (entry_map.keys_of entries) → end ≡ (if other then Err (BadField field.Other line) else Ok tt) → NoOther names line value end
other_said names line value entries other end is said ends = rw (← is, any_key names entries, ← said) ends
