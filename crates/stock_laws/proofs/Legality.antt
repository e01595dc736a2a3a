-- Records without a fault, and journals of such records.
use Rattle.std.proofs.Common.{◌≡◌, ℕ, zero, suc, ◌+◌, ◌<◌, ◌≤◌, List, [], ◌∷◌, ◌++◌, length, take, None, subst, arith, append_assoc, length-append}
use Rattle.std.proofs.lemmas.Bool.Decides.{nat_tests}
use Rattle.std.proofs.lemmas.List.{append-nil}
use Rattle.stock_nums.specs.declared.limits.TheConstants.{MAX_RECORDS, MAX_ENTRIES}
use Rattle.stock_model.specs.declared.deeds.Deed.{Deed}
use Rattle.stock_model.specs.declared.deeds.Deed.TheVariants.{Kept, Published}
use Rattle.stock_model.specs.declared.records.Record.{Record}
use Rattle.stock_model.specs.Enough.{IsEnough, shortage}
use Rattle.stock_model.specs.Entries.{entries, all_entries}
use Rattle.stock_model.specs.Faults.{voucher_fault, full, short, short_of, fault_but_short, fault}
use Rattle.stock_model.specs.History.{records, IsLegalAfter, IsLegal}
use Rattle.stock_model.specs.Journals.{AreLegalAfter, AreLegal, AreSoundAfter, AreSound}
use Rattle.stock_model.specs.PostingOrder.{posting_line}
use Rattle.stock_laws.proofs.Enough.{IsEnough-from_none, IsEnough-nil}
use Rattle.stock_laws.proofs.LiveEntries.{length-all_entries-step}
use Rattle.stock_model.proofs.NoFaults.{neither, none-map}

tested_room : (journal : List Record) (item : Record) → full journal item ≡ None
    → (length journal < MAX_RECORDS) × (length (all_entries journal) + length (entries journal item) ≤ MAX_ENTRIES)
tested_room journal item room = (grind (arith, nat_tests), grind (arith, nat_tests))

-- where there is no fault but perhaps a shortage there is room
pub room-from : (journal : List Record) (item : Record) → fault_but_short journal item ≡ None
    → (length journal < MAX_RECORDS) × (length (all_entries journal) + length (entries journal item) ≤ MAX_ENTRIES)
room-from journal item none = tested_room journal item (neither (voucher_fault journal item.what) (full journal item) none).1

-- what it means that a record has no fault
pub record NoFault (journal : List Record) (item : Record) : Type 0 where
  pub sound : voucher_fault journal item.what ≡ None
  pub records : length journal < MAX_RECORDS
  pub few : length (all_entries journal) + length (entries journal item) ≤ MAX_ENTRIES
  pub enough : shortage (posting_line (journal ++ item ∷ [])) ≡ None

pub NoFault-from : (journal : List Record) (item : Record) → fault journal item ≡ None → NoFault journal item
unfolding fault
NoFault-from journal item none =
    let first = neither (fault_but_short journal item) (short journal item) none in
    let room = room-from journal item first.0 in
    record {
      sound = (neither (voucher_fault journal item.what) (full journal item) first.0).0;
      records = room.0;
      few = room.1;
      enough = none-map short_of (shortage (posting_line (journal ++ item ∷ []))) first.1;
    }

-- the records of a legal journal have no faults of their own
AreSoundAfter-from : (journal rest : List Record) → AreLegalAfter journal rest → AreSoundAfter journal rest
AreSoundAfter-from journal [] legal = tt
AreSoundAfter-from journal (item ∷ rest) legal =
    ((NoFault-from journal item legal.0).sound, AreSoundAfter-from (journal ++ item ∷ []) rest legal.1)

pub AreSound-from : (journal : List Record) → AreLegal journal → AreSound journal
AreSound-from journal legal = AreSoundAfter-from [] journal legal

-- the records of a legal history are a legal journal
AreLegalAfter-history : (journal : List Record) (covered : ℕ) (history : List Deed) → IsLegalAfter journal covered history → AreLegalAfter journal (records history)
AreLegalAfter-history journal covered [] legal = tt
AreLegalAfter-history journal covered (Kept item ∷ history) legal = (legal.0, AreLegalAfter-history (journal ++ item ∷ []) covered history legal.1)
AreLegalAfter-history journal covered (Published n ∷ history) legal = AreLegalAfter-history journal n.0 history legal.2

pub AreLegal-history : (history : List Deed) → IsLegal history → AreLegal (records history)
AreLegal-history history legal = AreLegalAfter-history [] 0 history legal

-- and so are the first of them
AreLegalAfter-take : (journal rest : List Record) (n : ℕ) → AreLegalAfter journal rest → AreLegalAfter journal (take n rest)
AreLegalAfter-take journal rest zero legal = tt
AreLegalAfter-take journal [] (suc n) legal = tt
AreLegalAfter-take journal (item ∷ rest) (suc n) legal = (legal.0, AreLegalAfter-take (journal ++ item ∷ []) rest n legal.1)

pub AreLegal-take : (journal : List Record) (n : ℕ) → AreLegal journal → AreLegal (take n journal)
AreLegal-take journal n legal = AreLegalAfter-take [] journal n legal

-- what a legal journal holds: no more records and movements than it may, and always enough
pub record IsHeld (journal : List Record) : Type 0 where
  pub records : length journal ≤ MAX_RECORDS
  pub few : length (all_entries journal) ≤ MAX_ENTRIES
  pub enough : IsEnough (posting_line journal)

IsHeld-nil : IsHeld []
unfolding posting_line all_entries
IsHeld-nil =
    record {
      records = omega arith;
      few = omega arith;
      enough = IsEnough-nil;
    }

IsHeld-after : (journal rest : List Record) → IsHeld journal → AreLegalAfter journal rest → IsHeld (journal ++ rest)
IsHeld-after journal [] held legal = rw append-nil held
IsHeld-after journal (item ∷ rest) held legal =
    let none = NoFault-from journal item legal.0 in
    let next : IsHeld (journal ++ item ∷ []) =
    record {
      records = omega (arith, length-append journal (item ∷ []), none.records);
      few = omega (arith, length-all_entries-step journal item, none.few);
      enough = IsEnough-from_none (posting_line (journal ++ item ∷ [])) none.enough;
    } in
    subst IsHeld (append_assoc journal (item ∷ []) rest) (IsHeld-after (journal ++ item ∷ []) rest next legal.1)

pub IsHeld-legal : (journal : List Record) → AreLegal journal → IsHeld journal
IsHeld-legal journal legal = IsHeld-after [] journal IsHeld-nil legal
