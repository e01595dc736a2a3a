-- How a stored text is read: as the record that it is, or with the first fault of the walk over its fields.
use Rattle.std.specs.Prelude.{ℕ, ◌≡◌, List, [], ◌∷◌, Result}
use Rattle.serde_json.specs.Data.{Data}
use Rattle.stock_nums.specs.declared.limits.TheConstants.{MAX_DESK}
use Rattle.stock_model.specs.declared.read_faults.FieldName.{FieldName}
use Rattle.stock_model.specs.declared.read_faults.FieldName.TheVariants as field
use Rattle.stock_model.specs.declared.read_faults.ReadFault.{ReadFault}
use Rattle.stock_model.specs.declared.records.Record.{Record}
use Rattle.voucher_json.specs.Walks.{Then, Yields, Field}
use Rattle.voucher_json.specs.Fields.{IsObject, IsWord, IsNumber}
use Rattle.voucher_json.specs.Records.{record_kinds, IsWhat}
use Rattle.voucher_json.specs.Texts.{IsWalked}

-- the fields that every record has
abbrev pub record_fields : List FieldName
record_fields = field.Do ∷ field.Desk ∷ []

-- An object, whose `do` says its kind. Then comes `desk`, from 0 to 16.
abbrev pub IsRecord : Data → Result Record ReadFault → Type 0
IsRecord value =
    Then (IsObject field.Request 0 value) (λ is_one.
    Then (Field (IsWord record_kinds) field.Do 0 value) (λ kind.
    Then (Field (IsNumber 0 MAX_DESK) field.Desk 0 value) (λ desk.
    Then (IsWhat record_fields kind value) (λ what.
    Yields (λ found. (found.desk.0 ≡ desk) × (found.what ≡ what))))))

-- How a stored text is read, however it is spelled.
abbrev pub IsRecordReadAs : List ℕ → Result Record ReadFault → Type 0
IsRecordReadAs = IsWalked IsRecord
