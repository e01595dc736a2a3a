-- What a voucher in force names is in force too: nothing that is linked is taken back.
use Rattle.std.proofs.Common.{◌≡◌, ℕ, zero, suc, ◌+◌, ◌<◌, ◌≤◌, Bool, true, false, ◌&&◌, ◌||◌, not, cond, ◌⊎◌, List, [], ◌∷◌, ◌++◌, length, take, drop, Option, Some, None, refl, sym, ap, ◌∙◌, subst, arith, inl, inr, append_assoc, length-append}
use Rattle.std.specs.Prelude.{nat_eq, slice_get, is_none}
use Rattle.std.specs.Option.{option_map, option_map_or}
use Rattle.std.specs.List.{list_any, enumerate_from, find}
use Rattle.std.proofs.lemmas.Bool.{cases_lt, false≢true}
use Rattle.std.proofs.lemmas.List.{append-nil, drop_all, take-append-drop}
use Rattle.std.proofs.lemmas.List.Folds.{list_any-append}
use Rattle.std.proofs.lemmas.Bool.Decides.{nat_tests}
use Rattle.stock_nums.specs.declared.cause.Cause.{Cause}
use Rattle.stock_nums.specs.declared.cause.Cause.TheVariants as cause
use Rattle.stock_nums.specs.declared.entry.Entry.{Entry}
use Rattle.stock_model.specs.declared.faults.PostFault.{PostFault}
use Rattle.stock_model.specs.declared.records.Record.{Record}
use Rattle.stock_model.specs.declared.targets.NamedTarget.{NamedTarget}
use Rattle.stock_model.specs.declared.vouchers.What.{What}
use Rattle.stock_model.specs.declared.vouchers.What.TheVariants.{Item, Store, Receipt, Issue, Transfer, CustomerReturn, SupplierReturn, Landed, Freeze, Cancel}
use Rattle.stock_model.specs.Cancelling.{is_line_of, names_line_of, is_link, first_link}
use Rattle.stock_model.specs.Entries.{cancels, takes_back, is_live, is_live_entry, entries_after, all_entries}
use Rattle.stock_model.specs.Faults.{lacks_target, linked, linked_by}
use Rattle.stock_model.specs.Journals.{AreSound, AreSoundAfter}
use Rattle.stock_model.specs.Masters.{record_at}
use Rattle.stock_model.specs.VoucherLines.{targets_of}
use Rattle.stock_model.proofs.NoFaults.{NoFaults, NoFaults-from, none-map, live-target}
use Rattle.stock_model.proofs.Numbered.{Fails, first_line-none}
use Rattle.stock_model.proofs.Pairwise.{Each}
use Rattle.stock_laws.proofs.EntryRecords.{IsOfRecord, NamesTarget}
use Rattle.stock_laws.proofs.GoneEntries.{IsAt-from}
use Rattle.stock_laws.proofs.KnownEntries.{entries-known}
use Rattle.stock_laws.proofs.LiveEntries.{is_live-older, is_live-newest}
use Rattle.stock_laws.proofs.RecordsAt.{what_at}
use Rattle.stock_laws.proofs.ReturnedUnits.{in-force, held-live}

-- what a voucher in force names is of a record in force
abbrev pub HaveLiveTargets : List Record → Type 0
HaveLiveTargets journal = (k : ℕ) (item : Record) → record_at journal k ≡ Some item → is_live journal k ≡ true → (c : ℕ) → names_line_of c item.what ≡ true → is_live journal c ≡ true

-- where nothing is found that passes a test, nothing passes it
module _ {X : Type 0} (test : ℕ × X → Bool) where
  fails-step : (k : ℕ) (y : X) (ys : List X) (x : X) → ((j : ℕ) → find test (enumerate_from (k + 1) ys) ≡ None → slice_get ys j ≡ Some x → test ((k + 1) + j, x) ≡ false)
      → (b : Bool) → test (k, y) ≡ b → cond b (Some (k, y)) (find test (enumerate_from (k + 1) ys)) ≡ None → (i : ℕ) → slice_get (y ∷ ys) i ≡ Some x → test (k + i, x) ≡ false
  fails-step k y ys x rest true own h i is = cc
  fails-step k y ys x rest false own h zero is =
      let same : y ≡ x = cc in
      let at : k + 0 ≡ k = omega arith in
      ap (λ (n : ℕ). test (n, x)) at ∙ ap (λ (z : X). test (k, z)) (sym same) ∙ own
  fails-step k y ys x rest false own h (suc i) is =
      let at : k + suc i ≡ (k + 1) + i = omega arith in
      ap (λ (n : ℕ). test (n, x)) at ∙ rest i h is

  find-none : (k : ℕ) (xs : List X) (i : ℕ) (x : X) → find test (enumerate_from k xs) ≡ None → slice_get xs i ≡ Some x → test (k + i, x) ≡ false
  find-none k [] zero x none is = cc
  find-none k [] (suc i) x none is = cc
  find-none k (y ∷ ys) i x none is = fails-step k y ys x (λ j h s. find-none (k + 1) ys j x h s) (test (k, y)) refl none i is

record-none : (test : ℕ × Record → Bool) (journal : List Record) (n : ℕ) (item : Record) → find test (enumerate_from 1 journal) ≡ None → record_at journal n ≡ Some item → test (n, item) ≡ false
record-none test journal zero item none held = cc
record-none test journal (suc i) item none held =
    let at : 1 + i ≡ suc i = omega arith in
    ap (λ (n : ℕ). test (n, item)) (sym at) ∙ find-none test 1 journal i item none held

-- a voucher that names a line takes nothing back
names-spares : (what : What) (c n : ℕ) → names_line_of c what ≡ true → cancels n what ≡ false
unfolding cancels
names-spares (Item code method) c n names = cc
names-spares (Store code account) c n names = cc
names-spares (Receipt at lines) c n names = cc
names-spares (Issue at purpose lines) c n names = cc
names-spares (Transfer at lines) c n names = cc
names-spares (CustomerReturn at lines) c n names = refl
names-spares (SupplierReturn at lines) c n names = refl
names-spares (Landed charge basis targets) c n names = refl
names-spares (Freeze until) c n names = cc
names-spares (Cancel cancelled) c n names = cc

-- the lines that a voucher without faults names are of records in force
named-live : (journal : List Record) (targets : List NamedTarget) (c : ℕ) → Each (Fails (lacks_target journal)) targets → list_any (is_line_of c) targets ≡ true → is_live journal c ≡ true
named-live journal [] c known names = cc
named-live journal (named ∷ targets) c known names =
    let n = named.target.voucher.0 in
    let step : (b : Bool) → nat_eq n c ≡ b → (b || list_any (is_line_of c) targets) ≡ true → is_live journal c ≡ true =
    λ b. elim b as (λ v. nat_eq n c ≡ v → (v || list_any (is_line_of c) targets) ≡ true → is_live journal c ≡ true) [
      | true ↦ λ is h. ap (is_live journal) (sym (same n c is)) ∙ live-target journal named known.0
      | false ↦ λ is h. named-live journal targets c known.1 h
    ] in
    step (nat_eq n c) refl names
  where
    same : (a b : ℕ) → nat_eq a b ≡ true → a ≡ b
    same a b is = grind (arith, nat_tests)

-- what a record takes back, it names
taken-named : (what : What) (c : ℕ) → cancels c what ≡ true → (journal : List Record) → linked journal what ≡ None → first_link journal c ≡ None
unfolding cancels
taken-named (Item code method) c takes journal none = cc
taken-named (Store code account) c takes journal none = cc
taken-named (Receipt at lines) c takes journal none = cc
taken-named (Issue at purpose lines) c takes journal none = cc
taken-named (Transfer at lines) c takes journal none = cc
taken-named (CustomerReturn at lines) c takes journal none = cc
taken-named (SupplierReturn at lines) c takes journal none = cc
taken-named (Landed charge basis targets) c takes journal none = cc
taken-named (Freeze until) c takes journal none = cc
taken-named (Cancel cancelled) c takes journal none =
    ap (first_link journal) (sym (same cancelled.0 c takes)) ∙ none-map linked_by (first_link journal cancelled.0) none
  where
    same : (a b : ℕ) → nat_eq a b ≡ true → a ≡ b
    same a b is = grind (arith, nat_tests)

first : (a b : Bool) → (a && b) ≡ true → a ≡ true
first true b h = refl
first false b h = h

-- one more record takes nothing back that is named by a voucher in force
stays-live : (journal : List Record) (item : Record) → NoFaults journal item.what → (k : ℕ) (other : Record) → record_at journal k ≡ Some other → is_live journal k ≡ true
    → (c : ℕ) → names_line_of c other.what ≡ true → is_live journal c ≡ true → is_live (journal ++ item ∷ []) c ≡ true
stays-live journal item none k other held live c names fine =
    elim (cases_lt (length journal) c) [
      | inl after ↦ is_live-newest (journal ++ item ∷ []) c (omega (arith, after, length-append journal (item ∷ [])))
      | inr before ↦
          let free : takes_back c item ≡ false = unlinked (takes_back c item) refl in
          is_live-older journal item c before ∙ ap (λ (b : Bool). is_live journal c && not b) free ∙ ap (λ (b : Bool). b && true) fine
    ]
  where
    unlinked : (b : Bool) → takes_back c item ≡ b → b ≡ false
    unlinked false takes = refl
    unlinked true takes =
        let fails : (is_live journal k && names_line_of c other.what) ≡ false = record-none (is_link journal c) journal k other (taken-named item.what c takes journal none.unlinked) held in
        absurd (false≢true (sym fails ∙ ap (λ (b : Bool). b && names_line_of c other.what) live ∙ names))

get-snoc : (records : List Record) (item : Record) (i : ℕ) (found : Record) → slice_get (records ++ item ∷ []) i ≡ Some found → (slice_get records i ≡ Some found) ⊎ (item ≡ found)
get-snoc [] item zero found is = inr cc
get-snoc [] item (suc i) found is = cc
get-snoc (r ∷ records) item zero found is = inl is
get-snoc (r ∷ records) item (suc i) found is = get-snoc records item i found is

-- a record of a journal with one more is one of before, or the new one
pub record_at-snoc : (journal : List Record) (item : Record) (n : ℕ) (found : Record) → record_at (journal ++ item ∷ []) n ≡ Some found → (record_at journal n ≡ Some found) ⊎ (item ≡ found)
record_at-snoc journal item zero found is = cc
record_at-snoc journal item (suc i) found is = get-snoc journal item i found is

HaveLiveTargets-snoc : (journal : List Record) (item : Record) → HaveLiveTargets journal → NoFaults journal item.what → HaveLiveTargets (journal ++ item ∷ [])
HaveLiveTargets-snoc journal item before none k found held live c names =
    elim (record_at-snoc journal item k found held) [
      | inl old ↦
          let at = IsAt-from journal k found old in
          let within : k ≤ length journal = omega (arith, at.count, ap length at.parts, length-append at.front (found ∷ at.rest)) in
          let was = first (is_live journal k) (not (takes_back k item)) (sym (is_live-older journal item k within) ∙ live) in
          stays-live journal item none k found old was c names (before k found old was c names)
      | inr same ↦
          let own : names_line_of c item.what ≡ true = ap (λ (r : Record). names_line_of c r.what) same ∙ names in
          let fine = named-live journal (targets_of item.what) c (first_line-none (lacks_target journal) 1 (targets_of item.what) none.known) own in
          kept c fine own
    ]
  where
    kept : (c : ℕ) → is_live journal c ≡ true → names_line_of c item.what ≡ true → is_live (journal ++ item ∷ []) c ≡ true
    kept c fine own =
        elim (cases_lt (length journal) c) [
          | inl after ↦ is_live-newest (journal ++ item ∷ []) c (omega (arith, after, length-append journal (item ∷ [])))
          | inr before ↦
              is_live-older journal item c before ∙ ap (λ (b : Bool). is_live journal c && not b) (names-spares item.what c c own) ∙ ap (λ (b : Bool). b && true) fine
        ]

HaveLiveTargets-after : (journal rest : List Record) → HaveLiveTargets journal → AreSoundAfter journal rest → HaveLiveTargets (journal ++ rest)
HaveLiveTargets-after journal [] before sound = subst HaveLiveTargets (sym (append-nil journal)) before
HaveLiveTargets-after journal (item ∷ rest) before sound =
    subst HaveLiveTargets (append_assoc journal (item ∷ []) rest)
    (HaveLiveTargets-after (journal ++ item ∷ []) rest (HaveLiveTargets-snoc journal item before (NoFaults-from journal item.what sound.0)) sound.1)

-- so it is in each sound journal
pub HaveLiveTargets-sound : (journal : List Record) → AreSound journal → HaveLiveTargets journal
HaveLiveTargets-sound journal sound = HaveLiveTargets-after [] journal nothing sound
  where
    nothing : HaveLiveTargets []
    nothing zero item held live c names = cc
    nothing (suc k) item held live c names = cc

-- and what a movement in force returns is of a record in force
abbrev pub IsOfLive : List Record → Cause → Type 0
IsOfLive journal (cause.CustomerReturn target issued) = is_live journal target.voucher.0 ≡ true
IsOfLive journal (cause.SupplierReturn target amount received) = is_live journal target.voucher.0 ≡ true
IsOfLive journal _ = Unit {0}

pub entry-live : (journal : List Record) (e : Entry) → AreSound journal → IsOfRecord journal e → is_live_entry journal e ≡ true → IsOfLive journal e.cause
entry-live journal e sound own live =
    let step : (o : Option Record) → record_at journal e.place.voucher.0 ≡ o → option_map (λ (r : Record). r.what) o ≡ Some own.what → IsOfLive journal e.cause =
    λ o. elim o as (λ v. record_at journal e.place.voucher.0 ≡ v → option_map (λ (r : Record). r.what) v ≡ Some own.what → IsOfLive journal e.cause) [
      | None ↦ λ held is. cc
      | Some item ↦ λ held is.
          let same : item.what ≡ own.what = cc in
          by-cause item.what (λ c names. HaveLiveTargets-sound journal sound e.place.voucher.0 item held live c names) e.cause (subst (λ (what : What). NamesTarget what e.cause) (sym same) own.names)
    ] in
    step (record_at journal e.place.voucher.0) refl own.held
  where
    by-cause : (what : What) → ((c : ℕ) → names_line_of c what ≡ true → is_live journal c ≡ true) → (c : Cause) → NamesTarget what c → IsOfLive journal c
    by-cause what live (cause.Receipt amount) names = tt
    by-cause what live (cause.Issue sold) names = tt
    by-cause what live cause.TransferLeaves names = tt
    by-cause what live cause.TransferEnters names = tt
    by-cause what live (cause.CustomerReturn target issued) names = live target.voucher.0 names
    by-cause what live (cause.SupplierReturn target amount received) names = live target.voucher.0 names

-- a record takes back none but one of before
takes-earlier : (journal : List Record) (what : What) (n : ℕ) → NoFaults journal what → length journal < n → cancels n what ≡ false
unfolding cancels
takes-earlier journal (Item code method) n none later = refl
takes-earlier journal (Store code account) n none later = refl
takes-earlier journal (Receipt at lines) n none later = refl
takes-earlier journal (Issue at purpose lines) n none later = refl
takes-earlier journal (Transfer at lines) n none later = refl
takes-earlier journal (CustomerReturn at lines) n none later = refl
takes-earlier journal (SupplierReturn at lines) n none later = refl
takes-earlier journal (Landed charge basis targets) n none later = refl
takes-earlier journal (Freeze until) n none later = refl
takes-earlier journal (Cancel cancelled) n none later =
    let found = held-live journal cancelled.0 (in-force journal cancelled none.live) in
    let at = IsAt-from journal cancelled.0 found.0.0 found.0.1 in
    let within : cancelled.0 ≤ length journal = omega (arith, at.count, ap length at.parts, length-append at.front (found.0.0 ∷ at.rest)) in
    other cancelled.0 n (omega (arith, within, later))
  where
    other : (a b : ℕ) → a < b → nat_eq a b ≡ false
    other a b less = grind (arith, nat_tests)

none-takes : (done rest : List Record) (n : ℕ) → AreSoundAfter done rest → length done + length rest ≤ n → list_any (takes_back n) rest ≡ false
none-takes done [] n sound long = refl
none-takes done (item ∷ rest) n sound long =
    ap (λ (b : Bool). b || list_any (takes_back n) rest) (takes-earlier done item.what n (NoFaults-from done item.what sound.0) (omega (arith, long)))
    ∙ none-takes (done ++ item ∷ []) rest n sound.1 (omega (arith, long, length-append done (item ∷ [])))

sound-first : (done front rest : List Record) → AreSoundAfter done (front ++ rest) → AreSoundAfter done front
sound-first done [] rest sound = tt
sound-first done (r ∷ front) rest sound = (sound.0, sound-first (done ++ r ∷ []) front rest sound.1)

-- so a record of a sound journal is in force where no record takes it back, be it earlier or later
pub live-where-none : (journal : List Record) (n : ℕ) → AreSound journal → is_live journal n ≡ not (list_any (takes_back n) journal)
live-where-none journal n sound =
    elim (cases_lt n (length journal)) [
      | inl within ↦
          let parts = take-append-drop n journal in
          let before = none-takes [] (take n journal) n (sound-first [] (take n journal) (drop n journal) (subst AreSound (sym parts) sound)) (omega (arith, length-take-le n journal)) in
          sym (ap (λ (records : List Record). not (list_any (takes_back n) records)) (sym parts)
          ∙ ap not (list_any-append (takes_back n) (take n journal) (drop n journal))
          ∙ ap (λ (b : Bool). not (b || list_any (takes_back n) (drop n journal))) before)
      | inr beyond ↦
          ap (λ (records : List Record). not (list_any (takes_back n) records)) (drop_all n journal beyond)
          ∙ sym (ap not (none-takes [] journal n sound (omega (arith, beyond))))
    ]
  where
    length-take-le : (n : ℕ) (xs : List Record) → length (take n xs) ≤ n
    length-take-le zero xs = omega arith
    length-take-le (suc n) [] = omega arith
    length-take-le (suc n) (x ∷ xs) = omega (arith, length-take-le n xs)
