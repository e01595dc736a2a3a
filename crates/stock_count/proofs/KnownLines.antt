-- What is received by a legal journal is known.
use Rattle.std.proofs.Common.{◌≡◌, Bool, true, false, ◌||◌, List, [], ◌∷◌, ◌++◌, map, Option, Some, None, refl, sym, ap, ◌∙◌, subst, append_assoc}
use Rattle.std.specs.Prelude.{is_none}
use Rattle.std.specs.Option.{option_and_then, option_map, option_to_list}
use Rattle.std.proofs.lemmas.List.{append-nil}
use Rattle.stock_nums.specs.declared.moment.Moment.{Moment}
use Rattle.stock_model.specs.declared.records.Record.{Record}
use Rattle.stock_model.specs.declared.vouchers.ReceiptLine.{ReceiptLine}
use Rattle.stock_model.specs.declared.vouchers.What.{What}
use Rattle.stock_model.specs.declared.vouchers.What.TheVariants.{Receipt}
use Rattle.stock_model.specs.Faults.{lacks_item, lacks_store}
use Rattle.stock_model.specs.Journals.{AreLegalAfter}
use Rattle.stock_model.specs.Masters.{item_with, store_with}
use Rattle.stock_model.specs.VoucherLines.{receipt_line}
use Rattle.stock_model.proofs.NoFaults.{NoFaults, NoFaults-from}
use Rattle.stock_model.proofs.Numbered.{Fails, first_line-none}
use Rattle.stock_model.proofs.Pairwise.{Each}
use Rattle.stock_laws.proofs.Legality.{NoFault-from}
use Rattle.stock_count.specs.Corrections.{Correction, receipt_said}
use Rattle.stock_count.specs.Held.{key_found, key_beside, key_with}
use Rattle.stock_count.specs.Plans.{IsReceipt}
use Rattle.stock_count.specs.Posted.{ArePosted}
use Rattle.stock_count.proofs.PostedSteps.{one-posted}

-- the journal has the item and the warehouse
pub record IsKnown (journal : List Record) (c : Correction) : Type 0 where
  pub item : is_none (item_with journal c.item) ≡ false
  pub store : is_none (store_with journal c.store) ≡ false

-- so there is a key
pub IsKnown-key : (journal : List Record) (c : Correction) → IsKnown journal c → key_with journal c.item c.store ≡ None → ⊥
IsKnown-key journal c known none =
    (elim (item_with journal c.item) as (λ o. is_none o ≡ false → option_and_then (key_beside journal c.store) o ≡ None → ⊥) [
      | None ↦ λ some is. cc
      | Some item ↦ λ some is.
          (elim (store_with journal c.store) as (λ s. is_none s ≡ false → option_map (key_found item) s ≡ None → ⊥) [
            | None ↦ λ here unknown. cc
            | Some store ↦ λ here unknown. cc
          ]) known.store is
    ]) known.item none

AreLegalAfter-rest : (done front rest : List Record) → AreLegalAfter done (front ++ rest) → AreLegalAfter (done ++ front) rest
AreLegalAfter-rest done [] rest legal = subst (λ (journal : List Record). AreLegalAfter journal rest) (sym (append-nil done)) legal
AreLegalAfter-rest done (x ∷ front) rest legal =
    subst (λ (journal : List Record). AreLegalAfter journal rest) (append_assoc done (x ∷ []) front) (AreLegalAfter-rest (done ++ x ∷ []) front rest legal.1)

-- the records after the first ones of a legal journal
pub legal-rest : (front rest : List Record) → AreLegalAfter [] (front ++ rest) → AreLegalAfter front rest
legal-rest front rest legal = AreLegalAfter-rest [] front rest legal

lines-known : (journal : List Record) (lines : List ReceiptLine) → Each (Fails (lacks_item journal)) (map receipt_line lines) → Each (Fails (lacks_store journal)) (map receipt_line lines)
    → Each (IsKnown journal) (map receipt_said lines)
lines-known journal [] items stores = tt
lines-known journal (line ∷ lines) items stores =
    (record { item = items.0; store = alone (is_none (store_with journal line.store)) stores.0 }, lines-known journal lines items.1 stores.1)
  where
    alone : (b : Bool) → (b || false) ≡ false → b ≡ false
    alone true h = cc
    alone false h = refl

what-known : (journal : List Record) (at : Moment) (lines : List ReceiptLine) → NoFaults journal (Receipt at lines) → Each (IsKnown journal) (map receipt_said lines)
what-known journal at lines none =
    lines-known journal lines
    (first_line-none (lacks_item journal) 1 (map receipt_line lines) none.items)
    (first_line-none (lacks_store journal) 1 (map receipt_line lines) none.stores)

pub all-known : (journal : List Record) (at : Moment) (more : List Correction) (voucher : Option What) (records : List Record) → IsReceipt at more voucher → ArePosted voucher records
    → AreLegalAfter journal records → Each (IsKnown journal) more
all-known journal at [] voucher records is posted legal = tt
all-known journal at (first ∷ rest) voucher records (lines, is, told) posted legal =
    let one = one-posted records (Receipt at lines) (posted ∙ ap option_to_list is) in
    let alone : AreLegalAfter journal (one.item ∷ []) = subst (AreLegalAfter journal) one.is legal in
    let none = subst (NoFaults journal) one.says (NoFaults-from journal one.item.what (NoFault-from journal one.item alone.0).sound) in
    subst (Each (IsKnown journal)) told (what-known journal at lines none)
