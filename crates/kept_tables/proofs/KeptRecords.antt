-- The records of a history as they are kept.
use Rattle.std.proofs.Common.{◌≡◌, ℕ, suc, pos, ◌+◌, ◌≤◌, ◌+ℤ◌, List, [], ◌∷◌, ◌++◌, length, take, refl, sym, ap, ◌∙◌, arith}
use Rattle.std.proofs.lemmas.List.{take-append-le}
use Rattle.stock_nums.specs.declared.numbers.RecordNo.{RecordNo}
use Rattle.stock_model.specs.declared.deeds.Deed.{Deed}
use Rattle.stock_model.specs.declared.deeds.Deed.TheVariants.{Kept}
use Rattle.stock_model.specs.declared.records.Record.{Record}
use Rattle.stock_model.specs.Entries.{all_entries}
use Rattle.stock_model.specs.History.{records, accepted, covered, covered_records, IsLegal}
use Rattle.stock_model.specs.PostingOrder.{posting_line}
use Rattle.stock_model.specs.Replay.{replay}
use Rattle.stock_laws.proofs.Histories.{records-append, covered_after-append, covered_after-within}
use Rattle.stock_keeper.specs.Changed.{current_version, new_tables, stored, appended, last_number, Follows, CoversRecords}
use Rattle.stock_keeper.specs.declared.tables.StoredRecord.{StoredRecord}
use Rattle.stock_keeper.specs.declared.tables.Tables.{Tables}
use Rattle.voucher_json.specs.RecordTexts.{record_text}
use Rattle.kept_tables.specs.TablesOf.{stored_from, worths_of, tables_of}

-- one more record is kept under the next number
pub stored_from-snoc : (n : ℕ) (items : List Record) (item : Record) → stored_from n (items ++ item ∷ [])
    ≡ stored_from n items ++ stored (record { 0 = length items + n }) (record_text item) ∷ []
stored_from-snoc n [] item =
    let same : n ≡ 0 + n = omega arith in
    ap (λ (m : ℕ). stored (record { 0 = m }) (record_text item) ∷ []) same
stored_from-snoc n (first ∷ items) item =
    let next : length items + (n + 1) ≡ suc (length items) + n = omega arith in
    ap (λ (rest : List StoredRecord). stored (record { 0 = n }) (record_text first) ∷ rest)
    (stored_from-snoc (n + 1) items item
    ∙ ap (λ (m : ℕ). stored_from (n + 1) items ++ stored (record { 0 = m }) (record_text item) ∷ []) next)

pub length-stored_from : (n : ℕ) (items : List Record) → length (stored_from n items) ≡ length items
length-stored_from n [] = refl
length-stored_from n (item ∷ items) = ap suc (length-stored_from (n + 1) items)

-- the last number
last_number-stored_from : (n : ℕ) (items : List Record)
    → last_number (pos n) (stored_from (n + 1) items) ≡ pos (n + length items)
last_number-stored_from n [] =
    let same : n ≡ n + 0 = omega arith in ap pos same
last_number-stored_from n (item ∷ items) =
    let next : (n + 1) + length items ≡ n + suc (length items) = omega arith in
    last_number-stored_from (n + 1) items ∙ ap pos next

-- the next one follows
pub Follows-next : (history : List Deed) → Follows (tables_of history) (record { 0 = accepted history + 1 })
Follows-next history =
    let next : accepted history + 1 ≡ (0 + accepted history) + 1 = omega arith in
    ap pos next ∙ sym (ap (λ z. z +ℤ pos 1) (last_number-stored_from 0 (records history)))

-- nothing is kept at first
pub tables_of-nil : tables_of [] ≡ new_tables
unfolding replay posting_line all_entries
tables_of-nil = refl

-- a record that is accepted is appended
pub tables_of-kept : (history : List Deed) (item : Record) → IsLegal history
    → appended (record { 0 = accepted history + 1 }) (record_text item) (tables_of history) ≡ tables_of (history ++ Kept item ∷ [])
tables_of-kept history item legal =
    let more = Kept item ∷ [] in
    let made : List StoredRecord → ℕ → List Record → Tables =
    λ rows n front. record { version = current_version; records = rows; covered = pos n; worths = worths_of (replay front) } in
    let all : records (history ++ more) ≡ records history ++ item ∷ [] = records-append history more in
    let n : covered (history ++ more) ≡ covered history = covered_after-append 0 history more in
    let within : covered history ≤ length (records history) = covered_after-within [] 0 history (omega arith) legal in
    let front : covered_records (history ++ more) ≡ covered_records history =
    ap (λ (m : ℕ). take m (records (history ++ more))) n ∙ ap (take (covered history)) all
    ∙ take-append-le (covered history) (records history) (item ∷ []) within in
    sym (ap (λ (items : List Record). made (stored_from 1 items) (covered (history ++ more)) (covered_records (history ++ more))) all
    ∙ ap (λ (rows : List StoredRecord). made rows (covered (history ++ more)) (covered_records (history ++ more)))
    (stored_from-snoc 1 (records history) item)
    ∙ ap (λ (m : ℕ). made (appended (record { 0 = accepted history + 1 }) (record_text item) (tables_of history)).records m
    (covered_records (history ++ more))) n
    ∙ ap (made (appended (record { 0 = accepted history + 1 }) (record_text item) (tables_of history)).records (covered history))
    front)

-- no more is covered than there are records
pub CoversRecords-accepted : (history : List Deed) (n : RecordNo) → n.0 ≤ accepted history
    → CoversRecords (tables_of history) n
CoversRecords-accepted history n within = omega (arith, within, length-stored_from 1 (records history))
