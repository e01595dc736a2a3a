-- A walk over the fields of a JSON object, in the order of its kind. It comes to a value, or to the first
-- fault. A step of a walk says what it may come to: an outcome is a value or a fault.
use Rattle.std.specs.Prelude.{ℕ, ◌+◌, ◌≡◌, ◌⊎◌, List, [], ◌∷◌, Option, Some, None, Result, Ok, Err}
use Rattle.serde_json.specs.Data.{Data, Items, no_items, item}
use Rattle.serde_json.specs.Find.{get}
use Rattle.stock_model.specs.declared.read_faults.FieldName.{FieldName}
use Rattle.stock_model.specs.declared.read_faults.ReadFault.{ReadFault}
use Rattle.stock_model.specs.declared.read_faults.ReadFault.TheVariants.{BadField, NoMemory}
use Rattle.voucher_json.specs.FieldNames.{field_text}

-- after a value the next step goes on, and after a fault there is none: the fault is what the walk comes to
abbrev pub GoesOn : {A B : Type 0} → (A → Result B ReadFault → Type 0) → Result A ReadFault → Result B ReadFault → Type 0
GoesOn next (Ok value) end = next value end
GoesOn next (Err fault) end = end ≡ Err fault

-- first the one step, and then with its value the next
pub record Then {A B : Type 0} (first : Result A ReadFault → Type 0) (next : A → Result B ReadFault → Type 0) (end : Result B ReadFault) : Type 0 where
  pub outcome : Result A ReadFault
  pub is : first outcome
  pub goes_on : GoesOn next outcome end

-- the walk comes to its end, or memory is wanting on the way
abbrev pub OrNoMemory : {A : Type 0} → (Result A ReadFault → Type 0) → Result A ReadFault → Type 0
OrNoMemory walk end = (end ≡ Err NoMemory) ⊎ walk end

-- the walk comes to this value
abbrev pub Ends : {A : Type 0} → A → Result A ReadFault → Type 0
Ends value end = end ≡ Ok value

-- the walk comes to a value of which this holds
abbrev pub Yields : {A : Type 0} → (A → Type 0) → Result A ReadFault → Type 0
Yields holds (Ok value) = holds value
Yields holds (Err fault) = ⊥

-- What is wanted, where it is found. Else the field is bad: it is missing or of the wrong form.
abbrev pub found_or_bad : {A : Type 0} → FieldName → ℕ → Option A → Result A ReadFault
found_or_bad name line None = Err (BadField name line)
found_or_bad name line (Some found) = Ok found

-- A form says what the value of a field may come to. In faults the field goes by its name, and by the place
-- from 1 of the list's element that has it, or by 0 in the outer object.
-- a field that has to be there
abbrev pub IsPresent : {A : Type 0} → (FieldName → ℕ → Data → Result A ReadFault → Type 0) → FieldName → ℕ → Option Data → Result A ReadFault → Type 0
IsPresent form name line None end = end ≡ Err (BadField name line)
IsPresent form name line (Some value) end = form name line value end

abbrev pub Field : {A : Type 0} → (FieldName → ℕ → Data → Result A ReadFault → Type 0) → FieldName → ℕ → Data → Result A ReadFault → Type 0
Field form name line value end = IsPresent form name line (get (field_text name) value) end

-- a field of the outer object that may be missing
abbrev pub IsOptional : {A : Type 0} → (FieldName → ℕ → Data → Result A ReadFault → Type 0) → FieldName → Option Data → Result (Option A) ReadFault → Type 0
IsOptional form name None end = end ≡ Ok None
IsOptional form name (Some value) end = Then (form name 0 value) (λ found. Ends (Some found)) end

abbrev pub Optional : {A : Type 0} → (FieldName → ℕ → Data → Result A ReadFault → Type 0) → FieldName → Data → Result (Option A) ReadFault → Type 0
Optional form name value end = IsOptional form name (get (field_text name) value) end

-- the elements of the list of this name, one after another, where the next one's place is this
abbrev pub Elements : {A : Type 0} → (FieldName → ℕ → Data → Result A ReadFault → Type 0) → FieldName → ℕ → Items → Result (List A) ReadFault → Type 0
Elements form name place no_items end = end ≡ Ok []
Elements form name place (item value values) end =
    Then (form name place value) (λ first. Then (Elements form name (place + 1) values) (λ others. Ends (first ∷ others))) end
