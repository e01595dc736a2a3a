-- The forms of the fields.
use Rattle.std.specs.Prelude.{ℕ, ◌+◌, ◌≡◌, ◌⊎◌, ◌&&◌, Bool, false, not, nat_le, List, [], ◌∷◌, Option, Some, None, is_some, option_and_then, Result, Ok, Err, bytes_eq, if◌then◌else◌, ⊤}
use Rattle.std.specs.List.{list_any}
use Rattle.serde_json.specs.Data.{Num, unsigned, negative, float, Data, Items, no_items, item, Members, no_members, member}
use Rattle.serde_json.specs.Find.{as_str, as_number, as_array, as_object}
use Rattle.stock_nums.specs.MomentText.{HasMomentShape, IsMomentInRange, SpellsMoment}
use Rattle.stock_nums.specs.declared.moment.Moment.{Moment}
use Rattle.stock_model.specs.Limits.{is_line_count}
use Rattle.stock_model.specs.declared.read_faults.FieldName.{FieldName}
use Rattle.stock_model.specs.declared.read_faults.FieldName.TheVariants as field
use Rattle.stock_model.specs.declared.read_faults.ReadFault.{ReadFault}
use Rattle.stock_model.specs.declared.read_faults.ReadFault.TheVariants.{BadField, Limit}
use Rattle.voucher_json.specs.FieldNames.{field_text}
use Rattle.voucher_json.specs.Walks.{Then, found_or_bad, Elements}

-- an object, with any members
abbrev pub IsObject : FieldName → ℕ → Data → Result ⊤ ReadFault → Type 0
IsObject name line value end = end ≡ (if is_some (as_object value) then Ok tt else Err (BadField name line))

-- any text
abbrev pub IsText : FieldName → ℕ → Data → Result (List ℕ) ReadFault → Type 0
IsText name line value end = end ≡ found_or_bad name line (as_str value)

-- what a text stands for in a table of words
abbrev pub choose : {A : Type 0} → List (List ℕ × A) → List ℕ → Option A
choose [] text = None
choose (word ∷ words) text = if bytes_eq text word.0 then Some word.1 else choose words text

-- one of the words of a table
abbrev pub IsWord : {A : Type 0} → List (List ℕ × A) → FieldName → ℕ → Data → Result A ReadFault → Type 0
IsWord words name line value end = end ≡ found_or_bad name line (option_and_then (choose words) (as_str value))

-- Only a whole number has the right form. A negative one is out of every range.
abbrev pub number_outcome : ℕ → ℕ → FieldName → ℕ → Option Num → Result ℕ ReadFault
number_outcome least most name line None = Err (BadField name line)
number_outcome least most name line (Some (unsigned n)) = if nat_le least n && nat_le n most then Ok n else Err (Limit name line)
number_outcome least most name line (Some (negative z)) = Err (Limit name line)
number_outcome least most name line (Some (float x)) = Err (BadField name line)

-- a whole number from the least to the most
abbrev pub IsNumber : ℕ → ℕ → FieldName → ℕ → Data → Result ℕ ReadFault → Type 0
IsNumber least most name line value end = end ≡ number_outcome least most name line (as_number value)

-- A text of the right shape spells a moment, or else is out of the calendar's range.
abbrev pub IsMomentText : FieldName → ℕ → List ℕ → Result Moment ReadFault → Type 0
IsMomentText name line text (Ok moment) = SpellsMoment text moment
IsMomentText name line text (Err fault) =
    ((¬ HasMomentShape text) × (fault ≡ BadField name line))
    ⊎ (HasMomentShape text × (¬ IsMomentInRange text) × (fault ≡ Limit name line))

-- a moment, YYYY-MM-DDTHH:MM:SS
abbrev pub IsMoment : FieldName → ℕ → Data → Result Moment ReadFault → Type 0
IsMoment name line value = Then (IsText name line value) (IsMomentText name line)

-- how many elements a list has
abbrev pub items_count : Items → ℕ
items_count no_items = 0
items_count (item value values) = items_count values + 1

-- the elements, of which there are 1 to 100
abbrev pub list_outcome : FieldName → ℕ → Option Items → Result Items ReadFault
list_outcome name line None = Err (BadField name line)
list_outcome name line (Some values) = if is_line_count (items_count values) then Ok values else Err (Limit name line)

-- a list of 1 to 100 elements of a form
abbrev pub IsList : {A : Type 0} → (FieldName → ℕ → Data → Result A ReadFault → Type 0) → FieldName → ℕ → Data → Result (List A) ReadFault → Type 0
IsList form name line value = Then (λ found. found ≡ list_outcome name line (as_array value)) (Elements form name 1)

-- the keys of an object
abbrev pub keys_of : Members → List (List ℕ)
keys_of no_members = []
keys_of (member key value members) = key ∷ keys_of members

-- whether the key is the name of one of the fields
abbrev pub is_named : List FieldName → List ℕ → Bool
is_named names key = list_any (λ name. bytes_eq (field_text name) key) names

-- whether there is a key that is the name of none
abbrev pub has_other : List FieldName → Option Members → Bool
has_other names None = false
has_other names (Some members) = list_any (λ key. not (is_named names key)) (keys_of members)

-- the object has no fields but these
abbrev pub NoOther : List FieldName → ℕ → Data → Result ⊤ ReadFault → Type 0
NoOther names line value end = end ≡ (if has_other names (as_object value) then Err (BadField field.Other line) else Ok tt)
