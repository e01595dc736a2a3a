-- Stored records are opened one by one, up to the first bad one.
use Rattle.std.proofs.Common.{◌≡◌, ℕ, ◌+◌, ◌<◌, List, [], ◌∷◌, ◌++◌, length, take, slice_get, Some, None, get_or, IsUtf8, refl, sym, ap, ◌∙◌, subst, append-nil, append_assoc}
use Rattle.std.proofs.lemmas.List.{take_more, length_push}
use Rattle.std.proofs.lemmas.Option.{slice_get_within, get_or_from_slice_get}
use Rattle.stock_model.specs.Faults.{fault}
use Rattle.stock_model.specs.Journals.{AreLegalAfter}
use Rattle.stock_model.specs.declared.records.Record.{Record}
use Rattle.stock_keeper.specs.Changed.{stored}
use Rattle.stock_keeper.specs.declared.tables.StoredRecord.{StoredRecord}
use Rattle.stock_keeper.specs.declared.tables.Tables.{Tables}
use Rattle.voucher_json.specs.RecordTexts.{record_text}
use Rattle.kept_tables.specs.Openings.{AreStored, IsBadRecord}
use Rattle.kept_tables.proofs.KeptRecords.{stored_from-snoc}

-- one more record without a fault after a journal
legal-more : (journal rest : List Record) (item : Record) → AreLegalAfter journal rest → fault (journal ++ rest) item ≡ None
    → AreLegalAfter journal (rest ++ item ∷ [])
legal-more journal [] item legal sound =
    (subst (λ (held : List Record). fault held item ≡ None) (append-nil journal) sound, tt)
legal-more journal (first ∷ rest) item legal sound = (
  legal.0,
  legal-more (journal ++ first ∷ []) rest item legal.1
      (subst (λ (held : List Record). fault held item ≡ None) (sym (append_assoc journal (first ∷ []) rest)) sound),
)

pub AreStored-nil : (t : Tables) → AreStored [] t
AreStored-nil t = (tt, refl)

-- the next stored record, kept as this one that has no fault at its place
pub AreStored-more : (t : Tables) (items : List Record) (item : Record) (kept : StoredRecord) → AreStored items t
    → slice_get t.records (length items) ≡ Some kept → kept ≡ stored (record { 0 = length items + 1 }) (record_text item)
    → fault items item ≡ None → AreStored (items ++ item ∷ []) t
AreStored-more t items item kept are at is sound =
    let k = length items in
    let within : k < length t.records = slice_get_within t.records k kept at in
    let here : get_or t.records k kept ≡ kept = get_or_from_slice_get t.records k kept kept at in (
      legal-more [] items item are.0 sound,
      stored_from-snoc 1 items item
          ∙ ap (λ (rows : List StoredRecord). rows ++ stored (record { 0 = k + 1 }) (record_text item) ∷ []) are.1
          ∙ ap (λ (r : StoredRecord). take k t.records ++ r ∷ []) (sym (here ∙ is))
          ∙ sym (take_more t.records k kept within)
          ∙ ap (λ (n : ℕ). take n t.records) (sym (length_push items item)),
    )

-- the next stored record, kept as this one that has a fault at its place, where no other has its text
pub IsBadRecord-faulty : (items : List Record) (item : Record) (kept : StoredRecord)
    → kept ≡ stored (record { 0 = length items + 1 }) (record_text item)
    → ((other : Record) → IsUtf8 (record_text other) → record_text other ≡ record_text item → other ≡ item)
    → (fault items item ≡ None → ⊥) → IsBadRecord items kept
IsBadRecord-faulty items item kept is one faulty other sound utf8 same =
    let text : record_text other ≡ record_text item = ap (λ (r : StoredRecord). r.body) (sym same ∙ is) in
    faulty (subst (λ (r : Record). fault items r ≡ None) (one other utf8 text) sound)
