-- What goes with a record that takes another one back: the movements of that one, all of which were in force, and what they returned.
use Rattle.std.proofs.Common.{◌≡◌, ℕ, zero, suc, ◌+◌, ◌-◌, ◌<◌, ◌≤◌, Bool, true, false, ◌&&◌, List, [], ◌∷◌, ◌++◌, length, take, filter, Option, Some, None, refl, sym, ap, ◌∙◌, subst, arith, append_assoc, length-append}
use Rattle.std.specs.Prelude.{nat_eq, slice_get}
use Rattle.std.specs.Option.{option_to_list}
use Rattle.std.specs.List.{flat_map}
use Rattle.std.proofs.lemmas.Bool.Decides.{nat_tests}
use Rattle.std.proofs.lemmas.List.{append-nil}
use Rattle.std.proofs.lemmas.List.Elements.{filter-append}
use Rattle.std.proofs.Math.Seq.{take-append_seam}
use Rattle.stock_nums.specs.declared.entry.Entry.{Entry}
use Rattle.stock_model.specs.declared.records.Record.{Record}
use Rattle.stock_model.specs.Entries.{entries, entries_after, entries_of, is_live, is_live_entry, is_of_record, all_entries}
use Rattle.stock_model.specs.Faults.{voucher_fault}
use Rattle.stock_model.specs.Journals.{AreSoundAfter}
use Rattle.stock_model.specs.Masters.{record_at}
use Rattle.stock_model.proofs.Growth.{entries_after-append}
use Rattle.stock_model.proofs.Pairwise.{Each}
use Rattle.stock_laws.proofs.LiveEntries.{IsOfNumber, movements-number, IsBetween, entries_after-between, filter-passes, filter-fails, filter-parts}

-- a record of a journal, those before it and those after it
pub record IsAt (journal : List Record) (n : ℕ) (item : Record) : Type 0 where
  pub front : List Record
  pub rest : List Record
  pub parts : journal ≡ front ++ item ∷ rest
  pub count : n ≡ length front + 1

at-index : (journal : List Record) (i : ℕ) (item : Record) → slice_get journal i ≡ Some item → IsAt journal (suc i) item
at-index [] zero item is = cc
at-index [] (suc i) item is = cc
at-index (r ∷ rest) zero item is =
    let same : r ≡ item = cc in
    record { front = []; rest = rest; parts = ap (λ (one : Record). one ∷ rest) same; count = omega arith }
at-index (r ∷ rest) (suc i) item is =
    let at = at-index rest i item is in
    record { front = r ∷ at.front; rest = at.rest; parts = ap (λ (rs : List Record). r ∷ rs) at.parts; count = omega (arith, at.count) }

pub IsAt-from : (journal : List Record) (n : ℕ) (item : Record) → record_at journal n ≡ Some item → IsAt journal n item
IsAt-from journal zero item is = cc
IsAt-from journal (suc i) item is = at-index journal i item is

-- in a sound journal those before it are sound, and it had no fault after them
pub sound-parts : (done front : List Record) (item : Record) (rest : List Record) → AreSoundAfter done (front ++ item ∷ rest)
    → AreSoundAfter done front × (voucher_fault (done ++ front) item.what ≡ None)
sound-parts done [] item rest sound = (tt, subst (λ (held : List Record). voucher_fault held item.what ≡ None) (sym (append-nil done)) sound.0)
sound-parts done (r ∷ front) item rest sound =
    let later = sound-parts (done ++ r ∷ []) front item rest sound.1 in
    ((sound.0, later.0), subst (λ (held : List Record). voucher_fault held item.what ≡ None) (append_assoc done (r ∷ []) front) later.1)

own-passes : (n : ℕ) (e : Entry) → IsOfNumber n e → is_of_record n e ≡ true
own-passes n e is = grind (arith, nat_tests)

before-fails : (n last : ℕ) (e : Entry) → last < n → IsBetween 0 last e → is_of_record n e ≡ false
before-fails n last e above is = grind (arith, nat_tests)

after-fails : (n first last : ℕ) (e : Entry) → n ≤ first → IsBetween first last e → is_of_record n e ≡ false
after-fails n first last e below is = grind (arith, nat_tests)

-- of the movements of all records those of one are those that it made
own-after : (front : List Record) (item : Record) (rest : List Record) → filter (is_of_record (length front + 1)) (entries_after [] (front ++ item ∷ rest)) ≡ entries front item
own-after front item rest =
    let n = length front + 1 in
    let next = front ++ item ∷ [] in
    let p = is_of_record n in
    let own = entries front item in
    let later = entries_after next rest in
    let first : filter p (entries_after [] front) ≡ [] =
    filter-fails (IsBetween 0 (length front)) p (λ e is. before-fails n (length front) e (omega arith) is) (entries_after [] front) (entries_after-between [] front) in
    let middle : filter p own ≡ own = filter-passes (IsOfNumber n) p (own-passes n) own (movements-number front n item.what) in
    let last : filter p later ≡ [] =
    filter-fails (IsBetween (length next) (length (next ++ rest))) p (λ e is. after-fails n (length next) (length (next ++ rest)) e (omega (arith, length-append front (item ∷ []))) is) later (entries_after-between next rest) in
    ap (filter p) (entries_after-append [] front (item ∷ rest))
    ∙ filter-append p (entries_after [] front) (own ++ later)
    ∙ ap (λ (es : List Entry). es ++ filter p (own ++ later)) first
    ∙ filter-append p own later
    ∙ ap (λ (es : List Entry). es ++ filter p later) middle
    ∙ ap (λ (es : List Entry). own ++ es) last
    ∙ append-nil own

-- the movements of a record, by the records before it
pub entries_of-at : (front : List Record) (item : Record) (rest : List Record) → entries_of (front ++ item ∷ rest) (length front + 1) ≡ entries front item
entries_of-at front item rest =
    let before : take (length front + 1 - 1) (front ++ item ∷ rest) ≡ front = rw (same (length front)) (take-append_seam front (item ∷ rest)) in
    ap (λ (held : List Record). flat_map (entries held) (option_to_list (record_at (front ++ item ∷ rest) (length front + 1)))) before
    ∙ ap (λ (found : Option Record). flat_map (entries front) (option_to_list found)) (found front item rest)
    ∙ append-nil (entries front item)
  where
    same : (k : ℕ) → k + 1 - 1 ≡ k
    same k = omega arith

    get : (xs : List Record) (x : Record) (ys : List Record) → slice_get (xs ++ x ∷ ys) (length xs) ≡ Some x
    get [] x ys = refl
    get (z ∷ xs) x ys = get xs x ys

    next : (k : ℕ) → suc k ≡ k + 1
    next k = omega arith

    found : (xs : List Record) (x : Record) (ys : List Record) → record_at (xs ++ x ∷ ys) (length xs + 1) ≡ Some x
    found xs x ys = subst (λ (k : ℕ). record_at (xs ++ x ∷ ys) k ≡ Some x) (next (length xs)) (get xs x ys)

-- of the movements in force those of a record in force are all that it made
pub own-live : (journal : List Record) (n : ℕ) (item : Record) → record_at journal n ≡ Some item → is_live journal n ≡ true → filter (is_of_record n) (all_entries journal) ≡ entries_of journal n
unfolding all_entries
own-live journal n item held live =
    let at = IsAt-from journal n item held in
    let all = entries_after [] journal in
    let both : (e : Entry) → Unit {0} → is_of_record n e ≡ (is_live_entry journal e && is_of_record n e) = λ e any. passes e in
    let parts = filter-parts (λ e. Unit {0}) (is_live_entry journal) (is_of_record n) (is_of_record n) both all (each all) in
    sym parts ∙ ap (λ (records : List Record). filter (is_of_record n) (entries_after [] records)) at.parts
    ∙ ap (λ (k : ℕ). filter (is_of_record k) (entries_after [] (at.front ++ item ∷ at.rest))) at.count
    ∙ own-after at.front item at.rest
    ∙ sym (ap (λ (records : List Record). entries_of records n) at.parts ∙ ap (entries_of (at.front ++ item ∷ at.rest)) at.count ∙ entries_of-at at.front item at.rest)
  where
    each : (es : List Entry) → Each (λ e. Unit {0}) es
    each [] = tt
    each (e ∷ es) = (tt, each es)

    none : (b : Bool) → (b && false) ≡ false
    none true = refl
    none false = refl

    number : (e : Entry) → is_of_record n e ≡ true → e.place.voucher.0 ≡ n
    number e is = grind (arith, nat_tests)

    passes : (e : Entry) → is_of_record n e ≡ (is_live_entry journal e && is_of_record n e)
    passes e =
        let step : (b : Bool) → is_of_record n e ≡ b → is_of_record n e ≡ (is_live_entry journal e && is_of_record n e) =
        λ b. elim b as (λ v. is_of_record n e ≡ v → is_of_record n e ≡ (is_live_entry journal e && is_of_record n e)) [
          | true ↦ λ is. sym (ap (λ (l : Bool). l && is_of_record n e) (ap (is_live journal) (number e is) ∙ live))
          | false ↦ λ is. is ∙ sym (ap (λ (v : Bool). is_live_entry journal e && v) is ∙ none (is_live_entry journal e))
        ] in
        step (is_of_record n e) refl
