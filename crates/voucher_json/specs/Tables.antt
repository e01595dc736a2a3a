-- Tables of the fields of a line: what an element of a list may be, and what is written of it, follow from one table.
use Rattle.std.specs.Prelude.{ℕ, ◌≡◌, List, [], ◌∷◌, ◌++◌, map, Result, pos, ⊤}
use Rattle.serde_json.specs.Data.{Data, string, number, unsigned, object, Members, no_members, put}
use Rattle.serde_json.specs.Find.{of_integer}
use Rattle.stock_nums.specs.declared.limits.TheConstants.{MAX_AMOUNT}
use Rattle.stock_nums.specs.declared.numbers.Minor.{Minor}
use Rattle.stock_model.specs.declared.read_faults.FieldName.{FieldName}
use Rattle.stock_model.specs.declared.read_faults.ReadFault.{ReadFault}
use Rattle.voucher_json.specs.FieldNames.{field_text}
use Rattle.voucher_json.specs.Walks.{Then, Ends, Yields, Field}
use Rattle.voucher_json.specs.Fields.{IsObject, IsText, IsNumber, NoOther}

-- money, from 0 to 10^12 minor units
abbrev pub IsMoney : FieldName → ℕ → Data → Result Minor ReadFault → Type 0
IsMoney name line value = Then (IsNumber 0 MAX_AMOUNT name line value) (λ amount. Ends (record { 0 = pos amount }))

-- what a field of a line is: a text, a whole number from the least to the most, or money
pub data Cell : Type 0 where
  a_text : Cell
  a_number : ℕ → ℕ → Cell
  an_amount : Cell

abbrev pub CellValue : Cell → Type 0
CellValue a_text = List ℕ
CellValue (a_number least most) = ℕ
CellValue an_amount = Minor

-- what the value of the field may come to
abbrev pub IsCell : (cell : Cell) → FieldName → ℕ → Data → Result (CellValue cell) ReadFault → Type 0
IsCell a_text = IsText
IsCell (a_number least most) = IsNumber least most
IsCell an_amount = IsMoney

-- what is written of a value
abbrev pub cell_data : (cell : Cell) → CellValue cell → Data
cell_data a_text value = string value
cell_data (a_number least most) value = number (unsigned value)
cell_data an_amount value = number (of_integer value.0)

-- the codes in a value: a text is one
abbrev pub cell_codes : (cell : Cell) → CellValue cell → List (List ℕ)
cell_codes a_text value = value ∷ []
cell_codes (a_number least most) value = []
cell_codes an_amount value = []

-- the values of the fields, one after another
abbrev pub Values : List (FieldName × Cell) → Type 0
Values [] = ⊤
Values (entry ∷ entries) = CellValue entry.1 × Values entries

-- The fields of lines of a type, in the order of the walk. The parts of a line are their values.
pub record LineTable (A : Type 0) : Type 0 where
  pub fields : List (FieldName × Cell)
  pub parts : A → Values fields

abbrev pub names_of : List (FieldName × Cell) → List FieldName
names_of = map (λ entry. entry.0)

-- first the fields, and then with their values the next step
abbrev pub Cells : {B : Type 0} (entries : List (FieldName × Cell)) → ℕ → Data → (Values entries → Result B ReadFault → Type 0) → Result B ReadFault → Type 0
Cells [] place value next = next tt
Cells (entry ∷ entries) place value next = Then (Field (IsCell entry.1) entry.0 place value) (λ found. Cells entries place value (λ others. next (found, others)))

-- an element of a list, which is an object with these fields and no others: the line that has these parts
abbrev pub IsLine : {A : Type 0} → LineTable A → FieldName → ℕ → Data → Result A ReadFault → Type 0
IsLine table name place value =
    Then (IsObject name place value) (λ is_one.
    Cells table.fields place value (λ values.
    Then (NoOther (names_of table.fields) place value) (λ none.
    Yields (λ line. table.parts line ≡ values))))

-- the members of an object, each put where its key belongs
abbrev pub members_of : (entries : List (FieldName × Cell)) → Values entries → Members
members_of [] values = no_members
members_of (entry ∷ entries) values = put (field_text entry.0) (cell_data entry.1 values.0) (members_of entries values.1)

-- the object that is written of a line
abbrev pub line_data : {A : Type 0} → LineTable A → A → Data
line_data table line = object (members_of table.fields (table.parts line))

abbrev pub codes_in : (entries : List (FieldName × Cell)) → Values entries → List (List ℕ)
codes_in [] values = []
codes_in (entry ∷ entries) values = cell_codes entry.1 values.0 ++ codes_in entries values.1

-- the codes of items and warehouses that a line has
abbrev pub line_codes : {A : Type 0} → LineTable A → A → List (List ℕ)
line_codes table line = codes_in table.fields (table.parts line)
