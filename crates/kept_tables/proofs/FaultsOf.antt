-- The tables of a legal history have no fault of their own.
use Rattle.std.proofs.Common.{◌≡◌, ℕ, zero, suc, ◌+◌, ◌<◌, ◌≤◌, List, [], ◌∷◌, ◌++◌, length, take, slice_get, Some, None, All, IsUtf8, ◌⊎◌, inl, inr, refl, sym, ap, ◌∙◌, subst, append_assoc, append-nil, arith}
use Rattle.std.proofs.lemmas.Int.{ints}
use Rattle.std.proofs.lemmas.List.{take_all}
use Rattle.std.proofs.lemmas.List.Elements.{All-get_or, All-take}
use Rattle.std.proofs.lemmas.Option.{get_or_from_slice_get}
use Rattle.stock_model.specs.Faults.{fault}
use Rattle.stock_model.specs.History.{records, covered, IsLegal}
use Rattle.stock_model.specs.Journals.{AreLegalAfter, AreLegal}
use Rattle.stock_model.specs.Replay.{replay}
use Rattle.stock_model.specs.declared.deeds.Deed.{Deed}
use Rattle.stock_model.specs.declared.records.Record.{Record}
use Rattle.stock_laws.proofs.Histories.{covered_after-within}
use Rattle.stock_laws.proofs.Legality.{AreLegal-history}
use Rattle.stock_keeper.specs.Changed.{stored}
use Rattle.stock_keeper.specs.declared.tables.StoredRecord.{StoredRecord}
use Rattle.stock_keeper.specs.declared.tables.Tables.{Tables}
use Rattle.voucher_json.specs.RecordTexts.{record_text}
use Rattle.kept_tables.specs.Differences.{worth_at}
use Rattle.kept_tables.specs.Openings.{AreUtf8, HasBadHead, IsAllStored, IsBadStored, DiffersAt, IsFaultOf}
use Rattle.kept_tables.specs.TablesOf.{stored_from, worths_of, tables_of}
use Rattle.kept_tables.specs.declared.differing.Difference.{Difference}
use Rattle.kept_tables.specs.declared.open_fault.OpenFault.{OpenFault}
use Rattle.kept_tables.specs.declared.open_fault.OpenFault.TheVariants.{KeeperFailed, BadHead, BadStored, StoredDiffers, NoMemory}
use Rattle.kept_tables.proofs.KeptRecords.{length-stored_from}
use Rattle.kept_tables.proofs.OneText.{has_utf8, one_stored, stored_from-take}

same_some : (a b : Record) → Some a ≡ Some b → a ≡ b
same_some a b same = cc

-- what stands at an index of a legal journal has no fault after what stands before
no_fault-at : (journal rest : List Record) (k : ℕ) (item : Record) → AreLegalAfter journal rest → slice_get rest k ≡ Some item
    → fault (journal ++ take k rest) item ≡ None
no_fault-at journal [] k item legal found = cc
no_fault-at journal (first ∷ rest) zero item legal found =
    subst (λ (held : List Record). fault held item ≡ None) (sym (append-nil journal))
    (subst (λ (one : Record). fault journal one ≡ None) (same_some first item found) legal.0)
no_fault-at journal (first ∷ rest) (suc k) item legal found =
    subst (λ (held : List Record). fault held item ≡ None) (append_assoc journal (first ∷ []) (take k rest))
    (no_fault-at (journal ++ first ∷ []) rest k item legal.1 found)

-- and is stored at this index
stored-at : (n : ℕ) (items : List Record) (k : ℕ) (item : Record) → slice_get items k ≡ Some item
    → slice_get (stored_from n items) k ≡ Some (stored (record { 0 = n + k }) (record_text item))
stored-at n [] k item found = cc
stored-at n (first ∷ items) zero item found =
    let same : n ≡ n + 0 = omega arith in
    ap (λ (one : Record). Some (stored (record { 0 = n }) (record_text one))) (same_some first item found)
    ∙ ap (λ (m : ℕ). Some (stored (record { 0 = m }) (record_text item))) same
stored-at n (first ∷ items) (suc k) item found =
    let next : (n + 1) + k ≡ n + suc k = omega arith in
    stored-at (n + 1) items k item found ∙ ap (λ (m : ℕ). Some (stored (record { 0 = m }) (record_text item))) next

-- the record at an index
record HasAt (items : List Record) (k : ℕ) : Type 0 where
  item : Record
  found : slice_get items k ≡ Some item

at_index : (items : List Record) (k : ℕ) → k < length items → HasAt items k
at_index [] k within = absurd (omega arith)
at_index (first ∷ items) zero within = record { item = first; found = refl }
at_index (first ∷ items) (suc k) within =
    let has : HasAt items k = at_index items k (omega arith) in record { item = has.item; found = has.found }

module _ (journal : List Record) (t : Tables) (utf8 : All has_utf8 journal) (kept : t.records ≡ stored_from 1 journal) where
  -- records that are stored first are the first of the journal
  first_ones : (items : List Record) → stored_from 1 items ≡ take (length items) t.records → items ≡ take (length items) journal
  first_ones items are =
      let k = length items in
      one_stored 1 (take k journal) items (All-take has_utf8 k journal utf8)
      (are ∙ ap (take k) kept ∙ stored_from-take 1 k journal)

  as_long : length t.records ≡ length journal
  as_long = ap length kept ∙ length-stored_from 1 journal

  -- each stored one is none that is bad
  pub no_bad_stored : (n : ℕ) → AreLegal journal → IsBadStored n t → ⊥
  no_bad_stored n legal bad =
      let items = bad.0 in
      let k = length items in
      let first : items ≡ take k journal = first_ones items bad.1.1 in
      let within : k < length journal = omega (arith, as_long, bad.3) in
      let has : HasAt journal k = at_index journal k within in
      let sound : fault items has.item ≡ None =
      subst (λ (held : List Record). fault held has.item ≡ None) (sym first) (no_fault-at [] journal k has.item legal has.found) in
      let text : IsUtf8 (record_text has.item) =
      subst has_utf8 (get_or_from_slice_get journal k has.item has.item has.found)
      (All-get_or has_utf8 journal k has.item within utf8) in
      let number : 1 + k ≡ k + 1 = omega arith in
      bad.4 (stored (record { 0 = 1 + k }) (record_text has.item))
      (ap (λ (rows : List StoredRecord). slice_get rows k) kept ∙ stored-at 1 journal k has.item has.found)
      has.item sound text (ap (λ (m : ℕ). stored (record { 0 = m }) (record_text has.item)) number)

  -- all that is stored is the journal
  pub all_stored : (items : List Record) → IsAllStored items t → items ≡ journal
  all_stored items are =
      first_ones items are.0.1 ∙ take_all (length items) journal (omega (arith, as_long, are.1))

-- the head of a legal history is good
no_bad_head : (history : List Deed) → IsLegal history → HasBadHead (tables_of history) → ⊥
no_bad_head history legal (inl version) = version refl
no_bad_head history legal (inr (inl below)) = omega (arith, ints, below)
no_bad_head history legal (inr (inr above)) =
    let within : covered history ≤ length (records history) = covered_after-within [] 0 history (omega arith) legal in
    omega (arith, ints, above, within, length-stored_from 1 (records history))

-- its worths are those of the records that it covers
no_difference : (history : List Deed) (d : Difference) → AreUtf8 (records history) → DiffersAt (tables_of history) d → ⊥
no_difference history d utf8 at =
    let all : at.0 ≡ records history = all_stored (records history) (tables_of history) utf8 refl at.0 at.1 in
    let n : covered history ≡ at.2 = omega (arith, ints, at.3) in
    at.4.differs (ap (λ (m : ℕ). worth_at (worths_of (replay (take m (records history)))) d.spot) n
    ∙ ap (λ (items : List Record). worth_at (worths_of (replay (take at.2 items))) d.spot) (sym all))

pub no_fault_of : (history : List Deed) (f : OpenFault) → IsLegal history → AreUtf8 (records history)
    → IsFaultOf (tables_of history) f → (f ≡ KeeperFailed) ⊎ (f ≡ NoMemory)
no_fault_of history KeeperFailed legal utf8 is = inl refl
no_fault_of history (BadHead version n total) legal utf8 is = absurd (no_bad_head history legal is.0)
no_fault_of history (BadStored n) legal utf8 is =
    absurd (no_bad_stored (records history) (tables_of history) utf8 refl n (AreLegal-history history legal) is.1)
no_fault_of history (StoredDiffers d) legal utf8 is = absurd (no_difference history d utf8 is.1)
no_fault_of history NoMemory legal utf8 is = inr refl
