-- What follows of a stored text from how it is read.
use Rattle.std.proofs.Common.{◌≡◌, ◌≢◌, ℕ, List, Result, Ok, Err, IsUtf8, ◌⊎◌, inl, inr, sym, ap, ◌∙◌, subst}
use Rattle.stock_model.specs.declared.read_faults.ReadFault.{ReadFault}
use Rattle.stock_model.specs.declared.read_faults.ReadFault.TheVariants as read_fault
use Rattle.stock_model.specs.declared.records.Record.{Record}
use Rattle.voucher_json.specs.RecordTexts.{record_text}
use Rattle.voucher_json.specs.StoredRecords.{IsRecord, IsRecordReadAs}
use Rattle.voucher_json.specs.Texts.{IsJson}
use Rattle.voucher_json.specs.Walks.{GoesOn, Then}
use Rattle.voucher_json.proofs.OneReading.{one_record_reading}
use Rattle.kept_tables.specs.declared.open_fault.OpenFault.{OpenFault}
use Rattle.kept_tables.specs.declared.open_fault.OpenFault.TheVariants.{BadStored, NoMemory}
use Rattle.kept_tables.proofs.OneText.{read-written, one_read}

-- a text that is read with a fault is read as no record
pub never_read : (text : List ℕ) (fault : ReadFault) → IsRecordReadAs text (Err fault) → (item : Record)
    → IsRecordReadAs text (Ok item) → ⊥
never_read text fault failed item read = apart (one_record_reading text (Ok item) (Err fault) read failed)
  where
    apart : Ok item ≡ Err fault → ⊥
    apart same = cc

-- a text that is read as a record is UTF-8
after_first : {A B : Type 0} (first : Result A ReadFault → Type 0) (next : A → Result B ReadFault → Type 0) (P : Type 0) (end : B)
    → ((value : A) → first (Ok value) → P) → Then first next (Ok end) → P
after_first {A} {B} first next P end gives walk = by_outcome walk.outcome walk.is walk.goes_on
  where
    by_outcome : (outcome : Result A ReadFault) → first outcome → GoesOn next outcome (Ok end) → P
    by_outcome (Ok value) is goes_on = gives value is
    by_outcome (Err fault) is goes_on = cc

pub read-utf8 : (text : List ℕ) (item : Record) → IsRecordReadAs text (Ok item) → IsUtf8 text
read-utf8 text item read = after_first (IsJson text) IsRecord (IsUtf8 text) item (λ value is. is.0) read

-- why a record is not opened whose text was not read
pub refused : (text : List ℕ) (number : ℕ) (fault : ReadFault) (told : OpenFault)
    → (fault ≡ read_fault.NoMemory) ⊎ IsRecordReadAs text (Err fault)
    → (fault ≡ read_fault.NoMemory → told ≡ NoMemory) → (told ≡ NoMemory) ⊎ (told ≡ BadStored number)
    → (told ≡ NoMemory) ⊎ ((told ≡ BadStored number) × ((item : Record) → IsRecordReadAs text (Ok item) → ⊥))
refused text number fault told (inl wanting) memory is = inl (memory wanting)
refused text number fault told (inr failed) memory (inl is) = inl is
refused text number fault told (inr failed) memory (inr is) = inr (is, never_read text fault failed)

module _ (text : List ℕ) where
  -- and is that of no record
  pub never_written : ((item : Record) → IsRecordReadAs text (Ok item) → ⊥) → (item : Record) → IsUtf8 (record_text item)
      → text ≢ record_text item
  never_written never item utf8 is =
      never item (subst (λ (t : List ℕ). IsRecordReadAs t (Ok item)) (sym is) (read-written item utf8))

  pub never_kept : (number : ℕ) (told : OpenFault)
      → (told ≡ NoMemory) ⊎ ((told ≡ BadStored number) × ((item : Record) → IsRecordReadAs text (Ok item) → ⊥))
      → (told ≡ NoMemory) ⊎ ((told ≡ BadStored number) × ((item : Record) → IsUtf8 (record_text item) → text ≢ record_text item))
  never_kept number told (inl wanting) = inl wanting
  never_kept number told (inr bad) = inr (bad.0, never_written bad.1)

  -- a text that is read as a record, but is not that of this record, is that of none
  pub otherwise_written : (item : Record) → IsRecordReadAs text (Ok item) → text ≢ record_text item → (other : Record)
      → IsUtf8 (record_text other) → text ≢ record_text other
  otherwise_written item read differs other utf8 is =
      differs (is ∙ ap record_text (one_read text other item
      (subst (λ (t : List ℕ). IsRecordReadAs t (Ok other)) (sym is) (read-written other utf8)) read))

  -- and no other record has its text
  pub only_written : (item : Record) → IsRecordReadAs text (Ok item) → text ≡ record_text item → (other : Record)
      → IsUtf8 (record_text other) → record_text other ≡ record_text item → other ≡ item
  only_written item read is other utf8 same =
      one_read text other item
      (subst (λ (t : List ℕ). IsRecordReadAs t (Ok other)) (same ∙ sym is) (read-written other utf8)) read
