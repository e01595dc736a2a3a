-- The notes of which record takes each one back, with one more record, and with one less.
use Rattle.std.proofs.Common.{◌≡◌, ℕ, zero, suc, ◌+◌, ◌-◌, ◌<◌, ◌≤◌, Bool, true, false, ◌&&◌, not, cond, List, [], ◌∷◌, ◌++◌, length, take, Option, Some, None, refl, sym, ap, ◌∙◌, subst, arith, inl, inr, length-append, length-set}
use Rattle.std.specs.Prelude.{nat_eq, nat_lt, unwrap_or, slice_get, set, is_none, IfSome}
use Rattle.std.proofs.lemmas.Bool.{cases_lt}
use Rattle.std.proofs.lemmas.Bool.Decides.{nat_tests}
use Rattle.std.proofs.lemmas.List.{length-take-le, take-append-le, take_all}
use Rattle.stock_nums.specs.declared.numbers.RecordNo.{RecordNo}
use Rattle.stock_model.specs.declared.records.Record.{Record}
use Rattle.stock_model.specs.declared.vouchers.What.{What}
use Rattle.stock_model.specs.declared.vouchers.What.TheVariants.{Item, Store, Receipt, Issue, Transfer, CustomerReturn, SupplierReturn, Landed, Freeze, Cancel}
use Rattle.stock_model.specs.Entries.{cancels, takes_back, is_live}
use Rattle.stock_model.specs.Masters.{record_at}
use Rattle.stock_model.proofs.NoFaults.{NoFaults}
use Rattle.stock_laws.proofs.LiveEntries.{is_live-older, is_live-newest}
use Rattle.stock_laws.proofs.GoneEntries.{IsAt-from}
use Rattle.stock_laws.proofs.ReturnedUnits.{in-force, held-live}
use Rattle.voucher_kinds.specs.Journals.{is_later, taker, noted_with, AreTakers}

-- what a list has at an index, or nothing
abbrev at : List (Option RecordNo) → ℕ → Option RecordNo
at takers i = unwrap_or (slice_get takers i) None

-- a note of no record at the end, or none, says the same
at-snoc : (takers : List (Option RecordNo)) (i : ℕ) → at (takers ++ None ∷ []) i ≡ at takers i
at-snoc [] zero = refl
at-snoc [] (suc i) = refl
at-snoc (t ∷ takers) zero = refl
at-snoc (t ∷ takers) (suc i) = at-snoc takers i

pub taker-snoc : (takers : List (Option RecordNo)) (n : ℕ) → taker (takers ++ None ∷ []) n ≡ taker takers n
taker-snoc takers zero = refl
taker-snoc takers (suc i) = at-snoc takers i

-- the first notes say of their records what all do
at-take : (takers : List (Option RecordNo)) (k i : ℕ) → i < k → at (take k takers) i ≡ at takers i
at-take takers zero i within = absurd (omega (arith, within))
at-take [] (suc k) zero within = refl
at-take [] (suc k) (suc i) within = refl
at-take (t ∷ takers) (suc k) zero within = refl
at-take (t ∷ takers) (suc k) (suc i) within = at-take takers k i (omega (arith, within))

pub taker-take : (takers : List (Option RecordNo)) (k n : ℕ) → n ≤ k → taker (take k takers) n ≡ taker takers n
taker-take takers k zero within = refl
taker-take takers k (suc i) within = at-take takers k i (omega (arith, within))

-- and of others that none takes them back
at-beyond : (takers : List (Option RecordNo)) (k i : ℕ) → k ≤ i → at (take k takers) i ≡ None
at-beyond takers zero zero beyond = refl
at-beyond takers zero (suc i) beyond = refl
at-beyond [] (suc k) zero beyond = refl
at-beyond [] (suc k) (suc i) beyond = refl
at-beyond (t ∷ takers) (suc k) zero beyond = absurd (omega (arith, beyond))
at-beyond (t ∷ takers) (suc k) (suc i) beyond = at-beyond takers k i (omega (arith, beyond))

taker-beyond : (takers : List (Option RecordNo)) (k n : ℕ) → k < n → taker (take k takers) n ≡ None
taker-beyond takers k zero beyond = refl
taker-beyond takers k (suc i) beyond = at-beyond takers k i (omega (arith, beyond))

less-apart : (i : ℕ) → nat_eq zero (suc i) ≡ false
less-apart i = grind (arith, nat_tests)

more-apart : (k : ℕ) → nat_eq (suc k) zero ≡ false
more-apart k = grind (arith, nat_tests)

both-later : (k i : ℕ) → nat_eq (suc k) (suc i) ≡ nat_eq k i
both-later k i = grind (arith, nat_tests)

-- a note that is changed, and the others
at-set : (takers : List (Option RecordNo)) (k i : ℕ) (by : Option RecordNo) → k < length takers → at (set takers k by) i ≡ cond (nat_eq k i) by (at takers i)
at-set [] k i by within = absurd (omega (arith, within))
at-set (t ∷ takers) zero zero by within = refl
at-set (t ∷ takers) zero (suc i) by within = ap (λ (e : Bool). cond e by (at takers i)) (sym (less-apart i))
at-set (t ∷ takers) (suc k) zero by within = ap (λ (e : Bool). cond e by t) (sym (more-apart k))
at-set (t ∷ takers) (suc k) (suc i) by within =
    at-set takers k i by (omega (arith, within)) ∙ ap (λ (e : Bool). cond e by (at takers i)) (sym (both-later k i))

taker-set : (takers : List (Option RecordNo)) (c n : ℕ) (by : Option RecordNo) → 0 < c → c ≤ length takers → taker (set takers (c - 1) by) n ≡ cond (nat_eq c n) by (taker takers n)
taker-set takers zero n by one within = absurd (omega (arith, one))
taker-set takers (suc k) zero by one within = ap (λ (e : Bool). cond e by None) (sym (more-apart k))
taker-set takers (suc k) (suc i) by one within =
    let before : suc k - 1 ≡ k = omega arith in
    ap (λ (j : ℕ). at (set takers j by) i) before ∙ at-set takers k i by (omega (arith, within))
    ∙ ap (λ (e : Bool). cond e by (at takers i)) (sym (both-later k i))

pub length-noted_with : (takers : List (Option RecordNo)) (what : What) (by : Option RecordNo) → length (noted_with takers what by) ≡ length takers
length-noted_with takers (Item code method) by = refl
length-noted_with takers (Store code account) by = refl
length-noted_with takers (Receipt at lines) by = refl
length-noted_with takers (Issue at purpose lines) by = refl
length-noted_with takers (Transfer at lines) by = refl
length-noted_with takers (CustomerReturn at lines) by = refl
length-noted_with takers (SupplierReturn at lines) by = refl
length-noted_with takers (Landed charge basis targets) by = refl
length-noted_with takers (Freeze until) by = refl
length-noted_with takers (Cancel cancelled) by = length-set takers (cancelled.0 - 1) by

-- a record that says nothing of another leaves it as it is
and-not : (a b : Bool) → b ≡ false → (a && not b) ≡ a
and-not true b fails = ap not fails
and-not false b fails = refl

live-other : (journal : List Record) (item : Record) (n : ℕ) → takes_back n item ≡ false → is_live (journal ++ item ∷ []) n ≡ is_live journal n
live-other journal item n none =
    elim (cases_lt (length journal) n) [
      | inl after ↦ is_live-newest (journal ++ item ∷ []) n (omega (arith, after, length-append journal (item ∷ []))) ∙ sym (is_live-newest journal n (omega (arith, after)))
      | inr before ↦ is_live-older journal item n (omega (arith, before)) ∙ and-not (is_live journal n) (takes_back n item) none
    ]

-- a number of a record that is held
pub within : (journal : List Record) (n : ℕ) (item : Record) → record_at journal n ≡ Some item → (0 < n) × (n ≤ length journal)
within journal n item held =
    let found = IsAt-from journal n item held in
    (omega (arith, found.count), omega (arith, found.count, ap length found.parts, length-append found.front (item ∷ found.rest)))

-- a test of numbers
lt-true : (n k : ℕ) → n < k → nat_lt n k ≡ true
lt-true n k is = grind (arith, nat_tests)

lt-false : (n k : ℕ) → k ≤ n → nat_lt n k ≡ false
lt-false n k is = grind (arith, nat_tests)

lt-from : (n k : ℕ) → nat_lt n k ≡ true → n < k
lt-from n k is = grind (arith, nat_tests)

not-from : (n k : ℕ) → nat_lt n k ≡ false → k ≤ n
not-from n k is = grind (arith, nat_tests)

-- what none of the first ones takes back, fewer of them don't
later-fewer : (k n : ℕ) (by : Option RecordNo) → k ≤ n → is_later n by ≡ true → is_later k by ≡ true
later-fewer k n None fewer is = refl
later-fewer k n (Some by) fewer is = lt-true k by.0 (omega (arith, fewer, lt-from n by.0 is))

-- further records take back nothing that is noted already
later-more : (n k : ℕ) (by : Option RecordNo) → n ≤ k → IfSome by (λ r. r.0 ≤ n) → is_later k by ≡ is_later n by
later-more n k None more among = refl
later-more n k (Some by) more among = lt-false k by.0 (omega (arith, more, among)) ∙ sym (lt-false n by.0 among)

later-within : (n k : ℕ) (by : Option RecordNo) → n ≤ k → IfSome by (λ r. r.0 ≤ n) → IfSome by (λ r. r.0 ≤ k)
later-within n k None more among = tt
later-within n k (Some by) more among = omega (arith, more, among)

-- where a record takes nothing back, the note names one before it
later-before : (n : ℕ) (by : Option RecordNo) → IfSome by (λ r. r.0 ≤ n + 1) → is_later (n + 1) by ≡ is_later n by → IfSome by (λ r. r.0 ≤ n)
later-before n None among same = tt
later-before n (Some by) among same = not-from n by.0 (sym same ∙ lt-false (n + 1) by.0 among)

-- in all its records
live-whole : (journal : List Record) (takers : List (Option RecordNo)) (n : ℕ) → AreTakers journal takers → is_live journal n ≡ is_later (length journal) (taker takers n)
live-whole journal takers n is =
    ap (λ (records : List Record). is_live records n) (sym (take_all (length journal) journal (omega arith))) ∙ is.in_force n (length journal) (omega arith)

-- none is noted exactly where none takes it back
none-later : (n : ℕ) (by : Option RecordNo) → IfSome by (λ r. r.0 ≤ n) → is_none by ≡ is_later n by
none-later n None among = refl
none-later n (Some by) among = sym (lt-false n by.0 among)

pub taker-live : (journal : List Record) (takers : List (Option RecordNo)) (n : ℕ) → AreTakers journal takers → is_none (taker takers n) ≡ is_live journal n
taker-live journal takers n is = none-later (length journal) (taker takers n) (is.within n) ∙ sym (live-whole journal takers n is)

-- what the notes are to say of one record
record IsTaker (records : List Record) (n : ℕ) (by : Option RecordNo) : Type 0 where
  said : (k : ℕ) → k ≤ length records → is_live (take k records) n ≡ is_later k by
  among : IfSome by (λ r. r.0 ≤ length records)

taker-is : (records : List Record) (takers : List (Option RecordNo)) (n : ℕ) → AreTakers records takers → IsTaker records n (taker takers n)
taker-is records takers n is = record { said = is.in_force n; among = is.within n }

-- the first ones of a journal with one more record
first-ones : (journal : List Record) (item : Record) (n k : ℕ) → k ≤ length journal → is_live (take k (journal ++ item ∷ [])) n ≡ is_live (take k journal) n
first-ones journal item n k first = ap (λ (records : List Record). is_live records n) (take-append-le k journal (item ∷ []) first)

whole-ones : (journal : List Record) (item : Record) (n k : ℕ) → length journal < k → is_live (take k (journal ++ item ∷ [])) n ≡ is_live (journal ++ item ∷ []) n
whole-ones journal item n k all =
    ap (λ (records : List Record). is_live records n) (take_all k (journal ++ item ∷ []) (omega (arith, all, length-append journal (item ∷ []))))

-- one more record that doesn't take it back
taker-other : (journal : List Record) (item : Record) (n : ℕ) (by : Option RecordNo) → takes_back n item ≡ false → IsTaker journal n by → IsTaker (journal ++ item ∷ []) n by
taker-other journal item n by none is =
    let longer = length-append journal (item ∷ []) in record {
      said = λ k first.
          elim (cases_lt (length journal) k) [
            | inl all ↦
                whole-ones journal item n k all ∙ live-other journal item n none ∙ ap (λ (records : List Record). is_live records n) (sym (take_all (length journal) journal (omega arith)))
                ∙ is.said (length journal) (omega arith) ∙ sym (later-more (length journal) k by (omega (arith, all)) is.among)
            | inr before ↦ first-ones journal item n k (omega (arith, before)) ∙ is.said k (omega (arith, before))
          ];
      among = later-within (length journal) (length (journal ++ item ∷ [])) by (omega (arith, longer)) is.among;
    }

not-both : (a b : Bool) → b ≡ true → (a && not b) ≡ false
not-both true b is = ap not is
not-both false b is = refl

-- and one that does
taker-same : (journal : List Record) (item : Record) (n : ℕ) (old : Option RecordNo) (by : RecordNo) → takes_back n item ≡ true → n ≤ length journal → is_live journal n ≡ true → by.0 ≡ length journal + 1
    → IsTaker journal n old → IsTaker (journal ++ item ∷ []) n (Some by)
taker-same journal item n old by takes held live number is =
    let longer = length-append journal (item ∷ []) in
    let none : is_later (length journal) old ≡ true =
    sym (is.said (length journal) (omega arith)) ∙ ap (λ (records : List Record). is_live records n) (take_all (length journal) journal (omega arith)) ∙ live in record {
      said = λ k first.
          elim (cases_lt (length journal) k) [
            | inl all ↦
                whole-ones journal item n k all ∙ is_live-older journal item n held ∙ not-both (is_live journal n) (takes_back n item) takes
                ∙ sym (lt-false k by.0 (omega (arith, all, number)))
            | inr before ↦
                first-ones journal item n k (omega (arith, before)) ∙ is.said k (omega (arith, before)) ∙ later-fewer k (length journal) old (omega (arith, before)) none
                ∙ sym (lt-true k by.0 (omega (arith, before, number)))
          ];
      among = omega (arith, number, longer);
    }

-- the last record taken away, which doesn't take it back
taker-without : (front : List Record) (last : Record) (n : ℕ) (by : Option RecordNo) → takes_back n last ≡ false → IsTaker (front ++ last ∷ []) n by → IsTaker front n by
taker-without front last n by none is =
    let longer = length-append front (last ∷ []) in
    let said : (k : ℕ) → k ≤ length front → is_live (take k front) n ≡ is_later k by =
    λ k first. sym (first-ones front last n k first) ∙ is.said k (omega (arith, first, longer)) in
    let all : is_live (front ++ last ∷ []) n ≡ is_later (length front + 1) by =
    sym (whole-ones front last n (length front + 1) (omega arith)) ∙ is.said (length front + 1) (omega (arith, longer)) in
    let own : is_live front n ≡ is_later (length front) by =
    ap (λ (records : List Record). is_live records n) (sym (take_all (length front) front (omega arith))) ∙ said (length front) (omega arith) in record {
      said = said;
      among = later-before (length front) by (later-within (length (front ++ last ∷ [])) (length front + 1) by (omega (arith, longer)) is.among) (sym all ∙ live-other front last n none ∙ own);
    }

-- and which does: then none does
taker-freed : (front : List Record) (last : Record) (n : ℕ) (old : Option RecordNo) → is_live front n ≡ true → IsTaker (front ++ last ∷ []) n old → IsTaker front n None
taker-freed front last n old live is =
    let longer = length-append front (last ∷ []) in
    let said : (k : ℕ) → k ≤ length front → is_live (take k front) n ≡ is_later k old =
    λ k first. sym (first-ones front last n k first) ∙ is.said k (omega (arith, first, longer)) in
    let none : is_later (length front) old ≡ true =
    sym (said (length front) (omega arith)) ∙ ap (λ (records : List Record). is_live records n) (take_all (length front) front (omega arith)) ∙ live in record {
      said = λ k first. said k first ∙ later-fewer k (length front) old first none;
      among = tt;
    }

-- one beyond the last, which none takes back
taker-newest : (records : List Record) (n : ℕ) → length records < n → IsTaker records n None
taker-newest records n after = record {
  said = λ k first. is_live-newest (take k records) n (omega (arith, after, first, length-take-le k records first));
  among = tt;
}

same-number : (c n : ℕ) → nat_eq c n ≡ true → c ≡ n
same-number c n is = grind (arith, nat_tests)

-- the notes of all records, each told of
takers-from : (records : List Record) (takers : List (Option RecordNo)) → length takers ≡ length records → ((n : ℕ) → IsTaker records n (taker takers n)) → AreTakers records takers
takers-from records takers count each = record { notes = count; in_force = λ n. (each n).said; within = λ n. (each n).among }

push-other : (journal : List Record) (item : Record) (takers : List (Option RecordNo)) → ((n : ℕ) → takes_back n item ≡ false) → AreTakers journal takers
    → (n : ℕ) → IsTaker (journal ++ item ∷ []) n (taker (takers ++ None ∷ []) n)
push-other journal item takers none is n =
    subst (IsTaker (journal ++ item ∷ []) n) (sym (taker-snoc takers n)) (taker-other journal item n (taker takers n) (none n) (taker-is journal takers n is))

push-cancel : (journal : List Record) (item : Record) (takers : List (Option RecordNo)) (c : ℕ) (by : RecordNo) → ((n : ℕ) → takes_back n item ≡ nat_eq c n) → c ≤ length journal → is_live journal c ≡ true
    → by.0 ≡ length journal + 1 → AreTakers journal takers → (n : ℕ) → IsTaker (journal ++ item ∷ []) n (cond (nat_eq c n) (Some by) (taker (takers ++ None ∷ []) n))
push-cancel journal item takers c by only held live number is n =
    let step : (e : Bool) → nat_eq c n ≡ e → IsTaker (journal ++ item ∷ []) n (cond e (Some by) (taker (takers ++ None ∷ []) n)) =
    λ e. elim e as (λ v. nat_eq c n ≡ v → IsTaker (journal ++ item ∷ []) n (cond v (Some by) (taker (takers ++ None ∷ []) n))) [
      | true ↦ λ same.
          let number_is = same-number c n same in
          taker-same journal item n (taker takers n) by (only n ∙ same) (omega (arith, number_is, held)) (ap (is_live journal) (sym number_is) ∙ live) number (taker-is journal takers n is)
      | false ↦ λ other.
          subst (IsTaker (journal ++ item ∷ []) n) (sym (taker-snoc takers n)) (taker-other journal item n (taker takers n) (only n ∙ other) (taker-is journal takers n is))
    ] in
    step (nat_eq c n) refl

push-kind : (journal : List Record) (item : Record) (takers : List (Option RecordNo)) (what : What) (by : RecordNo) → item.what ≡ what → NoFaults journal what → by.0 ≡ length journal + 1 → AreTakers journal takers
    → (n : ℕ) → IsTaker (journal ++ item ∷ []) n (taker (noted_with (takers ++ None ∷ []) what (Some by)) n)
unfolding cancels
push-kind journal item takers (Item code method) by says none number is n = push-other journal item takers (λ k. ap (cancels k) says) is n
push-kind journal item takers (Store code account) by says none number is n = push-other journal item takers (λ k. ap (cancels k) says) is n
push-kind journal item takers (Receipt at lines) by says none number is n = push-other journal item takers (λ k. ap (cancels k) says) is n
push-kind journal item takers (Issue at purpose lines) by says none number is n = push-other journal item takers (λ k. ap (cancels k) says) is n
push-kind journal item takers (Transfer at lines) by says none number is n = push-other journal item takers (λ k. ap (cancels k) says) is n
push-kind journal item takers (CustomerReturn at lines) by says none number is n = push-other journal item takers (λ k. ap (cancels k) says) is n
push-kind journal item takers (SupplierReturn at lines) by says none number is n = push-other journal item takers (λ k. ap (cancels k) says) is n
push-kind journal item takers (Landed charge basis targets) by says none number is n = push-other journal item takers (λ k. ap (cancels k) says) is n
push-kind journal item takers (Freeze until) by says none number is n = push-other journal item takers (λ k. ap (cancels k) says) is n
push-kind journal item takers (Cancel cancelled) by says none number is n =
    let found = held-live journal cancelled.0 (in-force journal cancelled none.live) in
    let held = within journal cancelled.0 found.0.0 found.0.1 in
    subst (IsTaker (journal ++ item ∷ []) n)
    (sym (taker-set (takers ++ None ∷ []) cancelled.0 n (Some by) held.0 (omega (arith, held.1, is.notes, length-append takers (None ∷ [])))))
    (push-cancel journal item takers cancelled.0 by (λ k. ap (cancels k) says) held.1 found.1 number is n)

-- the notes with one more record
pub takers-push : (journal : List Record) (item : Record) (takers : List (Option RecordNo)) (by : RecordNo) → NoFaults journal item.what → by.0 ≡ length journal + 1 → AreTakers journal takers
    → AreTakers (journal ++ item ∷ []) (noted_with (takers ++ None ∷ []) item.what (Some by))
takers-push journal item takers by none number is =
    takers-from (journal ++ item ∷ []) (noted_with (takers ++ None ∷ []) item.what (Some by))
    (omega (arith, length-noted_with (takers ++ None ∷ []) item.what (Some by), length-append takers (None ∷ []), is.notes, length-append journal (item ∷ [])))
    (push-kind journal item takers item.what by refl none number is)

pop-other : (front : List Record) (last : Record) (takers : List (Option RecordNo)) → ((n : ℕ) → takes_back n last ≡ false) → AreTakers (front ++ last ∷ []) takers → (n : ℕ) → IsTaker front n (taker takers n)
pop-other front last takers none is n = taker-without front last n (taker takers n) (none n) (taker-is (front ++ last ∷ []) takers n is)

pop-cancel : (front : List Record) (last : Record) (takers : List (Option RecordNo)) (c : ℕ) → ((n : ℕ) → takes_back n last ≡ nat_eq c n) → is_live front c ≡ true → AreTakers (front ++ last ∷ []) takers
    → (n : ℕ) → IsTaker front n (cond (nat_eq c n) None (taker takers n))
pop-cancel front last takers c only live is n =
    let step : (e : Bool) → nat_eq c n ≡ e → IsTaker front n (cond e None (taker takers n)) =
    λ e. elim e as (λ v. nat_eq c n ≡ v → IsTaker front n (cond v None (taker takers n))) [
      | true ↦ λ same. taker-freed front last n (taker takers n) (ap (is_live front) (sym (same-number c n same)) ∙ live) (taker-is (front ++ last ∷ []) takers n is)
      | false ↦ λ other. taker-without front last n (taker takers n) (only n ∙ other) (taker-is (front ++ last ∷ []) takers n is)
    ] in
    step (nat_eq c n) refl

pop-kind : (front : List Record) (last : Record) (takers : List (Option RecordNo)) (what : What) → last.what ≡ what → NoFaults front what → AreTakers (front ++ last ∷ []) takers
    → (n : ℕ) → IsTaker front n (taker (noted_with takers what None) n)
unfolding cancels
pop-kind front last takers (Item code method) says none is n = pop-other front last takers (λ k. ap (cancels k) says) is n
pop-kind front last takers (Store code account) says none is n = pop-other front last takers (λ k. ap (cancels k) says) is n
pop-kind front last takers (Receipt at lines) says none is n = pop-other front last takers (λ k. ap (cancels k) says) is n
pop-kind front last takers (Issue at purpose lines) says none is n = pop-other front last takers (λ k. ap (cancels k) says) is n
pop-kind front last takers (Transfer at lines) says none is n = pop-other front last takers (λ k. ap (cancels k) says) is n
pop-kind front last takers (CustomerReturn at lines) says none is n = pop-other front last takers (λ k. ap (cancels k) says) is n
pop-kind front last takers (SupplierReturn at lines) says none is n = pop-other front last takers (λ k. ap (cancels k) says) is n
pop-kind front last takers (Landed charge basis targets) says none is n = pop-other front last takers (λ k. ap (cancels k) says) is n
pop-kind front last takers (Freeze until) says none is n = pop-other front last takers (λ k. ap (cancels k) says) is n
pop-kind front last takers (Cancel cancelled) says none is n =
    let found = held-live front cancelled.0 (in-force front cancelled none.live) in
    let held = within front cancelled.0 found.0.0 found.0.1 in
    subst (IsTaker front n) (sym (taker-set takers cancelled.0 n None held.0 (omega (arith, held.1, is.notes, length-append front (last ∷ [])))))
    (pop-cancel front last takers cancelled.0 (λ k. ap (cancels k) says) found.1 is n)

-- the notes without the last record
pub takers-pop : (front : List Record) (last : Record) (takers : List (Option RecordNo)) → NoFaults front last.what → AreTakers (front ++ last ∷ []) takers
    → AreTakers front (take (length front) (noted_with takers last.what None))
takers-pop front last takers none is =
    let notes = noted_with takers last.what None in
    takers-from front (take (length front) notes)
    (length-take-le (length front) notes (omega (arith, length-noted_with takers last.what None, is.notes, length-append front (last ∷ []))))
    (λ n.
    elim (cases_lt (length front) n) [
      | inl after ↦ subst (IsTaker front n) (sym (taker-beyond notes (length front) n after)) (taker-newest front n after)
      | inr before ↦ subst (IsTaker front n) (sym (taker-take notes (length front) n (omega (arith, before)))) (pop-kind front last takers last.what refl none is n)
    ])
