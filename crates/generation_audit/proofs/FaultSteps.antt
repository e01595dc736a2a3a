-- The first fault of a record, from the tests in their order, and one more record without a fault.
use Rattle.std.proofs.Common.{◌≡◌, ◌+◌, ◌<◌, ◌≤◌, ◌⊎◌, List, [], ◌∷◌, ◌++◌, length, None, Some, refl, sym, subst, ap, ◌∙◌, append-nil, append_assoc, arith}
use Rattle.std.proofs.lemmas.Bool.Decides.{nat_tests}
use Rattle.stock_nums.specs.declared.entry.Entry.{Entry}
use Rattle.stock_nums.specs.declared.limits.TheConstants.{MAX_RECORDS, MAX_ENTRIES}
use Rattle.stock_model.specs.Enough.{shortage}
use Rattle.stock_model.specs.Entries.{entries, all_entries}
use Rattle.stock_model.specs.Faults.{fault, fault_but_short, full, short_of}
use Rattle.stock_model.specs.Journals.{AreLegalAfter, AreLegal}
use Rattle.stock_model.specs.PostingOrder.{posting_line}
use Rattle.stock_model.specs.declared.faults.PostFault.{PostFault}
use Rattle.stock_model.specs.declared.faults.PostFault.TheVariants.{Full}
use Rattle.stock_model.specs.declared.records.Record.{Record}
use Rattle.stock_model.specs.declared.shortages.Shortage.{Shortage}
use Rattle.stock_model.proofs.Growth.{length-posting_line}
use Rattle.stock_laws.proofs.Legality.{IsHeld-legal}
use Rattle.generation_audit.specs.LegalJournals.{IsLegalJournal}

-- a fault but a shortage is the first fault
pub fault-at_once : (journal : List Record) (item : Record) (f : PostFault) → fault_but_short journal item ≡ Some f → fault journal item ≡ Some f
unfolding fault
fault-at_once journal item f is = rw is refl

-- what the test of the room says
pub full-some : (journal : List Record) (item : Record) → (MAX_RECORDS ≤ length journal) ⊎ (MAX_ENTRIES < length (all_entries journal) + length (entries journal item))
    → full journal item ≡ Some (Full (length journal) (length (all_entries journal)))
full-some journal item no_room = grind (arith, nat_tests)

pub full-none : (journal : List Record) (item : Record) → length journal < MAX_RECORDS → length (all_entries journal) + length (entries journal item) ≤ MAX_ENTRIES
    → full journal item ≡ None
full-none journal item records room = grind (arith, nat_tests)

-- where with the record's movements one is short, that is the first fault
pub fault-short : (journal : List Record) (item : Record) (s : Shortage) → fault_but_short journal item ≡ None
    → shortage (posting_line (journal ++ item ∷ [])) ≡ Some s → fault journal item ≡ Some (short_of s)
unfolding fault
fault-short journal item s none is = rw (none, is) refl

-- and where none is short, there is no fault
pub fault-none : (journal : List Record) (item : Record) → fault_but_short journal item ≡ None
    → shortage (posting_line (journal ++ item ∷ [])) ≡ None → fault journal item ≡ None
unfolding fault
fault-none journal item none enough = rw (none, enough) refl

-- a record that has a fault is not without one
pub has_one : (journal : List Record) (item : Record) (f : PostFault) → fault journal item ≡ Some f → fault journal item ≡ None → ⊥
has_one journal item f is none =
    let both : Some f ≡ None = sym is ∙ none in cc

-- one more record without a fault after a journal
pub legal-more : (journal rest : List Record) (item : Record) → AreLegalAfter journal rest → fault (journal ++ rest) item ≡ None
    → AreLegalAfter journal (rest ++ item ∷ [])
legal-more journal [] item legal sound =
    (subst (λ (held : List Record). fault held item ≡ None) (append-nil journal) sound, tt)
legal-more journal (first ∷ rest) item legal sound = (
  legal.0,
  legal-more (journal ++ first ∷ []) rest item legal.1
      (subst (λ (held : List Record). fault held item ≡ None) (sym (append_assoc journal (first ∷ []) rest)) sound),
)

-- a legal journal and its movements
pub IsLegalJournal-from : (journal : List Record) (line : List Entry) → AreLegal journal → line ≡ posting_line journal → IsLegalJournal journal line
IsLegalJournal-from journal line legal is =
    record { legal = legal; posted = is; few = omega (arith, ap length is, length-posting_line journal, (IsHeld-legal journal legal).few) }
