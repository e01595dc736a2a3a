-- How the parts of a book hang together, and what a kept record and a publication make of them.
use Rattle.std.proofs.Common.{◌≡◌, ℕ, suc, ◌+◌, ◌-◌, ◌<◌, ◌≤◌, ◌⊎◌, List, [], ◌∷◌, ◌++◌, length, None, Some, refl, sym, subst, ap, ◌∙◌, length-append, arith, filter, take, drop}
use Rattle.std.proofs.lemmas.Bool.{lt-ltb, le-ltb}
use Rattle.std.proofs.lemmas.Bool.Decides.{nat_tests}
use Rattle.std.proofs.lemmas.List.{take-append-le, take_all, take-take, take-append-drop}
use Rattle.stock_laws.proofs.Enough.{IsEnough-nil, IsEnough-from_none}
use Rattle.stock_model.proofs.Growth.{length-posting_line}
use Rattle.stock_laws.proofs.LiveEntries.{length-all_entries-step}
use Rattle.stock_laws.proofs.Legality.{NoFault-from, AreLegal-history}
use Rattle.stock_model.proofs.NoFaults.{neither}
use Rattle.stock_laws.proofs.LegalReplay.{AreBounded-replay}
use Rattle.stock_nums.specs.declared.entry.Entry.{Entry}
use Rattle.stock_nums.specs.declared.entry.Row.{Row}
use Rattle.stock_nums.specs.declared.numbers.RecordNo.{RecordNo}
use Rattle.stock_nums.specs.declared.place.Spot.{Spot}
use Rattle.stock_model.specs.declared.records.Record.{Record}
use Rattle.stock_model.specs.declared.shortages.Shortage.{Shortage}
use Rattle.stock_model.specs.declared.deeds.Deed.{Deed}
use Rattle.stock_model.specs.declared.deeds.Deed.TheVariants as deed
use Rattle.stock_model.specs.declared.faults.PostFault.{PostFault}
use Rattle.stock_model.specs.declared.faults.PostFault.TheVariants.{Full}
use Rattle.stock_model.specs.Entries.{entries, all_entries}
use Rattle.stock_model.specs.Bounds.{AreBounded}
use Rattle.stock_model.specs.Enough.{IsEnough, shortage}
use Rattle.stock_model.specs.Faults.{fault, fault_but_short, full, short, short_of}
use Rattle.stock_nums.specs.declared.limits.TheConstants.{MAX_RECORDS, MAX_ENTRIES}
use Rattle.stock_model.specs.declared.queries.Query.{Query}
use Rattle.stock_model.specs.declared.queries.Need.{Need}
use Rattle.stock_model.specs.declared.queries.Need.TheVariants as need
use Rattle.std.specs.Prelude.{nat_le, if◌then◌else◌}
use Rattle.stock_model.specs.Reports.{need_of, need_at}
use Rattle.stock_model.specs.PostingOrder.{posting_line}
use Rattle.stock_model.specs.Journals.{AreLegal}
use Rattle.stock_model.specs.Replay.{replay}
use Rattle.stock_model.specs.History as history
use Rattle.stock_laws.proofs.Histories.{covered_after-append, IsLegalAfter-append}
use Rattle.generation_book.specs.declared.events.Event.{Event}
use Rattle.generation_book.specs.declared.events.Event.TheVariants.{Kept, Published}
use Rattle.repost_laws.proofs.JournalFronts.{AreLegal-front}
use Rattle.repost_fetch.specs.Changes.{AreChanges}
use Rattle.generation_book.specs.Book.{deeds, kept_count, IsBook}

-- the records of the history are those of the journal
pub records-deeds : (events : List Event) (journal : List Record) → kept_count events ≡ length journal → history.records (deeds events journal) ≡ journal
records-deeds [] [] counted = refl
records-deeds [] (item ∷ journal) counted = absurd (omega (arith, counted))
records-deeds (Kept ∷ events) [] counted = absurd (omega (arith, counted))
records-deeds (Kept ∷ events) (item ∷ journal) counted = ap (λ rest. item ∷ rest) (records-deeds events journal (omega (arith, counted)))
records-deeds (Published n ∷ events) journal counted = records-deeds events journal counted

pub kept_count-append : (old more : List Event) → kept_count (old ++ more) ≡ kept_count old + kept_count more
kept_count-append [] more = omega arith
kept_count-append (Kept ∷ old) more = omega (arith, kept_count-append old more)
kept_count-append (Published n ∷ old) more = kept_count-append old more

-- one more event and record tell one more deed
pub deeds-kept : (events : List Event) (journal : List Record) (item : Record) → kept_count events ≡ length journal
    → deeds (events ++ Kept ∷ []) (journal ++ item ∷ []) ≡ deeds events journal ++ deed.Kept item ∷ []
deeds-kept [] [] item counted = refl
deeds-kept [] (first ∷ journal) item counted = absurd (omega (arith, counted))
deeds-kept (Kept ∷ events) [] item counted = absurd (omega (arith, counted))
deeds-kept (Kept ∷ events) (first ∷ journal) item counted = ap (λ rest. deed.Kept first ∷ rest) (deeds-kept events journal item (omega (arith, counted)))
deeds-kept (Published n ∷ events) journal item counted = ap (λ rest. deed.Published n ∷ rest) (deeds-kept events journal item counted)

-- a publication tells one more deed
pub deeds-published : (events : List Event) (journal : List Record) (n : RecordNo) → kept_count events ≡ length journal
    → deeds (events ++ Published n ∷ []) journal ≡ deeds events journal ++ deed.Published n ∷ []
deeds-published [] [] n counted = refl
deeds-published [] (first ∷ journal) n counted = absurd (omega (arith, counted))
deeds-published (Kept ∷ events) [] n counted = absurd (omega (arith, counted))
deeds-published (Kept ∷ events) (first ∷ journal) n counted = ap (λ rest. deed.Kept first ∷ rest) (deeds-published events journal n (omega (arith, counted)))
deeds-published (Published m ∷ events) journal n counted = ap (λ rest. deed.Published m ∷ rest) (deeds-published events journal n counted)

-- each event is one deed
pub length-deeds : (events : List Event) (journal : List Record) → kept_count events ≡ length journal → length (deeds events journal) ≡ length events
length-deeds [] [] counted = refl
length-deeds [] (item ∷ journal) counted = absurd (omega (arith, counted))
length-deeds (Kept ∷ events) [] counted = absurd (omega (arith, counted))
length-deeds (Kept ∷ events) (item ∷ journal) counted = ap suc (length-deeds events journal (omega (arith, counted)))
length-deeds (Published n ∷ events) journal counted = ap suc (length-deeds events journal counted)

-- a record that was put at the end and taken away again leaves the journal
pub popped : (journal : List Record) (item : Record) → take (length (journal ++ item ∷ []) - 1) (journal ++ item ∷ []) ≡ journal
popped journal item =
    let n : length (journal ++ item ∷ []) - 1 ≡ length journal = omega (arith, length-append journal (item ∷ [])) in
    ap (λ (m : ℕ). take m (journal ++ item ∷ [])) n ∙ take-append-le (length journal) journal (item ∷ []) (omega arith)
    ∙ take_all (length journal) journal (omega arith)

-- what the parts of a book are told as
pub history-records : (events : List Event) (journal : List Record) (line : List Entry) (c : ℕ) (rows : List Row) (told : List Deed) → IsBook events journal line c rows
    → deeds events journal ≡ told → history.records told ≡ journal
history-records events journal line c rows told book is = ap history.records (sym is) ∙ records-deeds events journal book.counted

-- a fault but a shortage is the first fault
pub fault-at_once : (journal : List Record) (item : Record) (f : PostFault) → fault_but_short journal item ≡ Some f → fault journal item ≡ Some f
unfolding fault
fault-at_once journal item f is = rw is refl

-- what the test of the room says
pub full-some : (journal : List Record) (item : Record) → (MAX_RECORDS ≤ length journal) ⊎ (MAX_ENTRIES < length (all_entries journal) + length (entries journal item))
    → full journal item ≡ Some (Full (length journal) (length (all_entries journal)))
full-some journal item no_room = grind (arith, nat_tests)

pub full-none : (journal : List Record) (item : Record) → length journal < MAX_RECORDS → length (all_entries journal) + length (entries journal item) ≤ MAX_ENTRIES
    → full journal item ≡ None
full-none journal item records room = grind (arith, nat_tests)

-- and where with the record's movements one is short, that is the first fault
pub fault-short : (journal : List Record) (item : Record) (s : Shortage) → fault_but_short journal item ≡ None
    → shortage (posting_line (journal ++ item ∷ [])) ≡ Some s → fault journal item ≡ Some (short_of s)
unfolding fault
fault-short journal item s none is = rw (none, is) refl

-- and where none is short, there is no fault
pub fault-none : (journal : List Record) (item : Record) → fault_but_short journal item ≡ None
    → shortage (posting_line (journal ++ item ∷ [])) ≡ None → fault journal item ≡ None
unfolding fault
fault-none journal item none enough = rw (none, enough) refl

-- a record with no fault has none at once
pub at_once-none : (journal : List Record) (item : Record) → fault journal item ≡ None → fault_but_short journal item ≡ None
unfolding fault
at_once-none journal item none = (neither (fault_but_short journal item) (short journal item) none).0

-- a legal history stays so where a record without a fault is kept
pub legal-kept : (told : List Deed) (item : Record) → history.IsLegal told → fault (history.records told) item ≡ None → history.IsLegal (told ++ deed.Kept item ∷ [])
legal-kept told item legal sound = IsLegalAfter-append [] 0 told (deed.Kept item ∷ []) legal (sound, tt)

-- and where more records than before are published, and no more than were accepted
pub legal-published : (told : List Deed) (n : RecordNo) → history.IsLegal told → history.covered told < n.0 → n.0 ≤ length (history.records told)
    → history.IsLegal (told ++ deed.Published n ∷ [])
legal-published told n legal more within = IsLegalAfter-append [] 0 told (deed.Published n ∷ []) legal (more, within, tt)

-- the records of a book are a legal journal
pub IsBook-legal : (events : List Event) (journal : List Record) (line : List Entry) (c : ℕ) (rows : List Row) → IsBook events journal line c rows → AreLegal journal
IsBook-legal events journal line c rows book =
    subst AreLegal (records-deeds events journal book.counted) (AreLegal-history (deeds events journal) book.legal)

-- a book after a record was kept
pub IsBook-kept : (events : List Event) (journal : List Record) (line : List Entry) (c : ℕ) (rows : List Row) (item : Record) (longer : List Entry)
    → IsBook events journal line c rows → fault journal item ≡ None → longer ≡ posting_line (journal ++ item ∷ [])
    → IsBook (events ++ Kept ∷ []) (journal ++ item ∷ []) longer c rows
IsBook-kept events journal line c rows item longer book none posted =
    let told = deeds-kept events journal item book.counted in
    let fine = NoFault-from journal item none in
    record {
      counted = omega (arith, kept_count-append events (Kept ∷ []), length-append journal (item ∷ []), book.counted);
      posted = posted;
      few = omega (arith, ap length posted, length-posting_line (journal ++ item ∷ []), length-all_entries-step journal item, fine.few);
      enough = subst IsEnough (sym posted) (IsEnough-from_none (posting_line (journal ++ item ∷ [])) fine.enough);
      covers = rw (told, covered_after-append 0 (deeds events journal) (deed.Kept item ∷ [])) book.covers;
      within = omega (arith, length-append journal (item ∷ []), book.within);
      valued = rw (take-append-le c journal (item ∷ []) book.within) book.valued;
      bounded = book.bounded;
      legal = rw told (legal-kept (deeds events journal) item book.legal (rw (records-deeds events journal book.counted) none));
    }

-- a book after its first records were published
pub IsBook-published : (events : List Event) (journal : List Record) (line : List Entry) (c : ℕ) (rows : List Row) (n : RecordNo) (newer : List Row)
    → IsBook events journal line c rows → n.0 ≤ length journal → c < n.0 → newer ≡ replay (take n.0 journal) → AreBounded newer
    → IsBook (events ++ Published n ∷ []) journal line n.0 newer
IsBook-published events journal line c rows n newer book within more valued bounded =
    let told = deeds-published events journal n book.counted in
    record {
      counted = omega (arith, kept_count-append events (Published n ∷ []), book.counted);
      posted = book.posted;
      few = book.few;
      enough = book.enough;
      covers = rw (told, covered_after-append 0 (deeds events journal) (deed.Published n ∷ [])) refl;
      within = within;
      valued = valued;
      bounded = bounded;
      legal = rw told (legal-published (deeds events journal) n book.legal (rw (← book.covers) more) (rw (records-deeds events journal book.counted) within));
    }

-- a book after all its records were published
pub IsBook-settled : (events : List Event) (journal : List Record) (line : List Entry) (c : ℕ) (rows : List Row) (accepted : RecordNo) (newer : List Row)
    → IsBook events journal line c rows → accepted.0 ≡ length journal → c < accepted.0 → newer ≡ replay journal → AreBounded (replay journal)
    → IsBook (events ++ Published accepted ∷ []) journal line accepted.0 newer
IsBook-settled events journal line c rows accepted newer book all more valued bounded =
    IsBook-published events journal line c rows accepted newer book (omega (arith, all)) more
    (rw all (rw (take_all (length journal) journal (omega arith)) valued)) (subst AreBounded (sym valued) bounded)

-- the replay of the first records is bounded
pub AreBounded-first : (events : List Event) (journal : List Record) (line : List Entry) (c : ℕ) (rows : List Row) (n : ℕ) → IsBook events journal line c rows
    → AreBounded (replay (take n journal))
AreBounded-first events journal line c rows n book =
    AreBounded-replay (take n journal)
    (AreLegal-front (take n journal) (drop n journal) (subst AreLegal (sym (take-append-drop n journal)) (IsBook-legal events journal line c rows book)))

-- the empty book
pub IsBook-start : IsBook [] [] [] 0 []
unfolding replay posting_line all_entries
IsBook-start =
    record {
      counted = refl;
      posted = refl;
      few = omega arith;
      enough = IsEnough-nil;
      covers = refl;
      within = omega arith;
      valued = refl;
      bounded = AreBounded-replay [] tt;
      legal = tt;
    }

-- where something is not covered it is published
pub settled-more : (told : List Deed) (n : RecordNo) → history.covered told < history.accepted told → n.0 ≡ history.accepted told
    → history.settled told ≡ told ++ deed.Published n ∷ []
settled-more told n more all =
    rw (lt-ltb (history.covered told) (history.accepted told) more, ← all) refl

-- where everything is covered nothing is published
pub settled-same : (told : List Deed) → history.accepted told ≤ history.covered told → history.settled told ≡ told
settled-same told all = rw (le-ltb (history.covered told) (history.accepted told) all) refl

-- how many records the history accepted, and how many it covers
pub history-accepted : (events : List Event) (journal : List Record) (line : List Entry) (c : ℕ) (rows : List Row) (told : List Deed) → IsBook events journal line c rows
    → deeds events journal ≡ told → history.accepted told ≡ length journal
history-accepted events journal line c rows told book is = ap length (history-records events journal line c rows told book is)

pub history-covered : (events : List Event) (journal : List Record) (line : List Entry) (c : ℕ) (rows : List Row) (told : List Deed) → IsBook events journal line c rows
    → deeds events journal ≡ told → history.covered told ≡ c
history-covered events journal line c rows told book is = ap history.covered (sym is) ∙ sym book.covers

-- whether what a report needs is covered, is accepted, or isn't
abbrev need_by : RecordNo → List Deed → Need
need_by wanted told =
    if nat_le wanted.0 (history.covered told) then need.Ready
    else (if nat_le wanted.0 (history.accepted told) then need.Pending (record { 0 = history.covered told }) wanted else need.NoSuchRecord (record { 0 = history.accepted told }) wanted)

pub need_at-ready : (told : List Deed) (query : Query) (wanted : RecordNo) (c : ℕ) → wanted ≡ need_of query → history.covered told ≡ c → wanted.0 ≤ c → need_at told query ≡ need.Ready
need_at-ready told query wanted c is covers within =
    let ready : need_by wanted told ≡ need.Ready = rw covers (grind (arith, nat_tests)) in
    ap (λ (w : RecordNo). need_by w told) (sym is) ∙ ready

pub need_at-pending : (told : List Deed) (query : Query) (wanted : RecordNo) (c a : ℕ) → wanted ≡ need_of query → history.covered told ≡ c → history.accepted told ≡ a → c < wanted.0 → wanted.0 ≤ a
    → need_at told query ≡ need.Pending (record { 0 = c }) wanted
need_at-pending told query wanted c a is covers all beyond within =
    let pending : need_by wanted told ≡ need.Pending (record { 0 = c }) wanted = rw (covers, all) (grind (arith, nat_tests)) in
    ap (λ (w : RecordNo). need_by w told) (sym is) ∙ pending

pub need_at-none : (told : List Deed) (query : Query) (wanted : RecordNo) (c a : ℕ) → wanted ≡ need_of query → history.covered told ≡ c → history.accepted told ≡ a → c < wanted.0 → a < wanted.0
    → need_at told query ≡ need.NoSuchRecord (record { 0 = a }) wanted
need_at-none told query wanted c a is covers all beyond out =
    let none : need_by wanted told ≡ need.NoSuchRecord (record { 0 = a }) wanted = rw (covers, all) (grind (arith, nat_tests)) in
    ap (λ (w : RecordNo). need_by w told) (sym is) ∙ none
