-- A text in UTF-8 is that of one record at most, and stored records are those of one list at most.
use Rattle.std.proofs.Common.{◌≡◌, ℕ, zero, suc, ◌+◌, List, [], ◌∷◌, take, Result, Ok, All, IsUtf8, refl, sym, ap, ◌∙◌, subst}
use Rattle.std.proofs.lemmas.List.Elements.{All-head, All-tail}
use Rattle.stock_model.specs.declared.read_faults.ReadFault.{ReadFault}
use Rattle.stock_model.specs.declared.records.Record.{Record}
use Rattle.stock_keeper.specs.Changed.{stored}
use Rattle.stock_keeper.specs.declared.tables.StoredRecord.{StoredRecord}
use Rattle.voucher_json.specs.RecordTexts.{record_text, record_data}
use Rattle.voucher_json.specs.StoredRecords.{IsRecordReadAs}
use Rattle.voucher_json.proofs.OneReading.{one_record_reading}
use Rattle.voucher_json.proofs.RecordWalks.{record-read}
use Rattle.voucher_json.proofs.StoredRecords.{read-record_text}
use Rattle.voucher_json.proofs.Walks.{comes}
use Rattle.kept_tables.specs.TablesOf.{stored_from}

abbrev pub has_utf8 : Record → Type 0
has_utf8 item = IsUtf8 (record_text item)

-- what is written of a record is read as that record
pub read-written : (r : Record) → IsUtf8 (record_text r) → IsRecordReadAs (record_text r) (Ok r)
read-written r utf8 = comes _ _ (record_data r) _ (utf8, read-record_text r) (record-read r)

-- one text is read as one record
pub one_read : (text : List ℕ) (a b : Record) → IsRecordReadAs text (Ok a) → IsRecordReadAs text (Ok b) → a ≡ b
one_read text a b first second = same_ok a b (Ok a) refl (one_record_reading text (Ok a) (Ok b) first second)
  where
    same_ok : (a b : Record) (read : Result Record ReadFault) → read ≡ Ok a → read ≡ Ok b → a ≡ b
    same_ok a b read first second = cc

-- a record whose text is UTF-8 is the one with this text
pub one_record : (a b : Record) → IsUtf8 (record_text a) → record_text b ≡ record_text a → b ≡ a
one_record a b utf8 same =
    one_read (record_text a) b a
    (subst (λ (text : List ℕ). IsRecordReadAs text (Ok b)) same (read-written b (subst IsUtf8 (sym same) utf8)))
    (read-written a utf8)

-- the first of two lists that are one are the same, and the rest
same_first : (a b : StoredRecord) (xs ys : List StoredRecord) → a ∷ xs ≡ b ∷ ys → a ≡ b
same_first a b xs ys same = cc

same_rest : (a b : StoredRecord) (xs ys : List StoredRecord) → a ∷ xs ≡ b ∷ ys → xs ≡ ys
same_rest a b xs ys same = cc

-- records that are stored as others whose texts are UTF-8 are these
pub one_stored : (n : ℕ) (known items : List Record) → All has_utf8 known → stored_from n items ≡ stored_from n known
    → items ≡ known
one_stored n [] [] utf8 same = refl
one_stored n [] (item ∷ items) utf8 same = cc
one_stored n (first ∷ known) [] utf8 same = cc
one_stored n (first ∷ known) (item ∷ items) utf8 same =
    let kept = stored (record { 0 = n }) (record_text item) in
    let known_kept = stored (record { 0 = n }) (record_text first) in
    let text : record_text item ≡ record_text first = ap (λ (r : StoredRecord). r.body)
    (same_first kept known_kept (stored_from (n + 1) items) (stored_from (n + 1) known) same) in
    let one : item ≡ first = one_record first item (All-head has_utf8 first known utf8) text in
    let rest : items ≡ known = one_stored (n + 1) known items (All-tail has_utf8 first known utf8)
    (same_rest kept known_kept (stored_from (n + 1) items) (stored_from (n + 1) known) same) in
    ap (λ (r : Record). r ∷ items) one ∙ ap (λ (rs : List Record). first ∷ rs) rest

-- the first stored ones are those of the first records
pub stored_from-take : (n k : ℕ) (items : List Record) → take k (stored_from n items) ≡ stored_from n (take k items)
stored_from-take n zero items = refl
stored_from-take n (suc k) [] = refl
stored_from-take n (suc k) (item ∷ items) =
    ap (λ (rest : List StoredRecord). stored (record { 0 = n }) (record_text item) ∷ rest) (stored_from-take (n + 1) k items)
