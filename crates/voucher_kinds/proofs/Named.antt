-- The notes of from which record on lines of each one are named, with one more record, and with one less.
use Rattle.std.proofs.Common.{◌≡◌, ℕ, zero, suc, ◌+◌, ◌-◌, ◌<◌, ◌≤◌, Bool, true, false, ◌||◌, List, [], ◌∷◌, ◌++◌, length, take, drop, get_or, Option, Some, None, refl, sym, ap, ◌∙◌, subst, arith, inl, inr, length-append, add-one}
use Rattle.std.specs.Prelude.{slice_get, is_none, nat_eq, ◌&&◌}
use Rattle.std.specs.Option.{option_map_or, option_and_then}
use Rattle.std.specs.List.{list_any, enumerate_from, find}
use Rattle.std.proofs.lemmas.Bool.{cases_lt}
use Rattle.std.proofs.lemmas.Bool.Decides.{nat_tests}
use Rattle.std.proofs.lemmas.List.{length-take-le, drop_all}
use Rattle.std.proofs.lemmas.Option.{slice_get_read}
use Rattle.stock_nums.specs.declared.numbers.RecordNo.{RecordNo}
use Rattle.stock_model.specs.declared.records.Record.{Record}
use Rattle.stock_model.specs.declared.targets.NamedTarget.{NamedTarget}
use Rattle.stock_model.specs.Cancelling.{is_line_of, names_line_of, is_link, first_link}
use Rattle.stock_model.specs.Entries.{is_live}
use Rattle.stock_model.specs.Faults.{lacks_target}
use Rattle.stock_model.specs.Masters.{record_at}
use Rattle.stock_model.specs.TargetLines.{line_of_kind, target_line}
use Rattle.stock_model.specs.VoucherLines.{targets_of}
use Rattle.stock_model.proofs.NoFaults.{NoFaults, held-target}
use Rattle.stock_model.proofs.Numbered.{Fails, first_line-none}
use Rattle.stock_model.proofs.Pairwise.{Each}
use Rattle.stock_laws.proofs.ReturnedUnits.{record_at-append}
use Rattle.voucher_kinds.specs.Journals.{taker, IsFrom, KeepsFirst, AreNamers}
use Rattle.voucher_kinds.proofs.Noted.{taker-snoc, taker-take, within}

-- a target of an accepted voucher is one of a record that is held
held-voucher : (journal : List Record) (named : NamedTarget) → is_none (target_line journal named) ≡ false → (0 < named.target.voucher.0) × (named.target.voucher.0 ≤ length journal)
held-voucher journal named =
    let n = named.target.voucher.0 in
    let step : (o : Option Record) → record_at journal n ≡ o → is_none (option_and_then (line_of_kind named) o) ≡ false → (0 < n) × (n ≤ length journal) =
    λ o. elim o as (λ v. record_at journal n ≡ v → is_none (option_and_then (line_of_kind named) v) ≡ false → (0 < n) × (n ≤ length journal)) [
      | None ↦ λ is h. cc
      | Some item ↦ λ is h. within journal n item is
    ] in
    step (record_at journal n) refl

same-number : (a b : ℕ) → nat_eq a b ≡ true → a ≡ b
same-number a b is = grind (arith, nat_tests)

-- what a voucher without faults names is of a record that is held
named-held : (journal : List Record) (targets : List NamedTarget) (n : ℕ) → Each (Fails (lacks_target journal)) targets → list_any (is_line_of n) targets ≡ true → (0 < n) × (n ≤ length journal)
named-held journal [] n known names = cc
named-held journal (named ∷ targets) n known names =
    let v = named.target.voucher.0 in
    let step : (b : Bool) → nat_eq v n ≡ b → (b || list_any (is_line_of n) targets) ≡ true → (0 < n) × (n ≤ length journal) =
    λ b. elim b as (λ e. nat_eq v n ≡ e → (e || list_any (is_line_of n) targets) ≡ true → (0 < n) × (n ≤ length journal)) [
      | true ↦ λ is h. subst (λ (k : ℕ). (0 < k) × (k ≤ length journal)) (same-number v n is) (held-voucher journal named (held-target journal named known.0))
      | false ↦ λ is h. named-held journal targets n known.1 h
    ] in
    step (nat_eq v n) refl names

-- the notes of the empty journal
pub namers-start : (records : List Record) (namers : List (Option RecordNo)) → records ≡ [] → namers ≡ [] → AreNamers records namers
namers-start records namers none unnoted =
    subst (λ (journal : List Record). AreNamers journal namers) (sym none)
    (subst (AreNamers []) (sym unnoted) (record { notes = refl; from = λ n k item held names. nothing n k item held }))
  where
    nothing : (n k : ℕ) (item : Record) → record_at [] k ≡ Some item → (0 < n) × (n < k) × IsFrom (taker [] n) k
    nothing n zero item held = cc
    nothing n (suc k) item held = cc

-- and of one that is kept anew and is the same
pub namers-same : (journal new : List Record) (namers new_namers : List (Option RecordNo)) → new ≡ journal → new_namers ≡ namers → AreNamers journal namers → AreNamers new new_namers
namers-same journal new namers new_namers stays noted is =
    subst (λ (records : List Record). AreNamers records new_namers) (sym stays) (subst (AreNamers journal) (sym noted) is)

-- the record at a number of a journal with one more
at-front : {X : Type 0} (xs : List X) (x found : X) (i : ℕ) → i < length xs → slice_get (xs ++ x ∷ []) i ≡ Some found → slice_get xs i ≡ Some found
at-front [] x found i first is = absurd (omega (arith, first))
at-front (y ∷ ys) x found zero first is = is
at-front (y ∷ ys) x found (suc i) first is = at-front ys x found i (omega (arith, first)) is

at-last : {X : Type 0} (xs : List X) (x found : X) (i : ℕ) → i ≡ length xs → slice_get (xs ++ x ∷ []) i ≡ Some found → x ≡ found
at-last [] x found zero last is = cc
at-last [] x found (suc i) last is = absurd (omega (arith, last))
at-last (y ∷ ys) x found zero last is = absurd (omega (arith, last))
at-last (y ∷ ys) x found (suc i) last is = at-last ys x found i (omega (arith, last)) is

old-record : (journal : List Record) (item found : Record) (k : ℕ) → k ≤ length journal → record_at (journal ++ item ∷ []) k ≡ Some found → record_at journal k ≡ Some found
old-record journal item found zero first held = cc
old-record journal item found (suc i) first held = at-front journal item found i (omega (arith, first)) held

new-record : (journal : List Record) (item found : Record) (k : ℕ) → length journal < k → k ≤ length journal + 1 → record_at (journal ++ item ∷ []) k ≡ Some found → item ≡ found
new-record journal item found zero after last held = cc
new-record journal item found (suc i) after last held = at-last journal item found i (omega (arith, after, last)) held

-- the notes with one more record
pub namers-push : (journal new : List Record) (item : Record) (namers with_it : List (Option RecordNo)) (by : RecordNo) → new ≡ journal ++ item ∷ [] → NoFaults journal item.what → by.0 ≡ length journal + 1
    → length with_it ≡ length (namers ++ None ∷ []) → KeepsFirst (namers ++ None ∷ []) with_it
    → ((n : ℕ) → 0 < n → n ≤ length (namers ++ None ∷ []) → names_line_of n item.what ≡ true → IsFrom (taker with_it n) by.0)
    → AreNamers journal namers → AreNamers new with_it
namers-push journal new item namers with_it by grows none number long keeps named is =
    subst (λ (records : List Record). AreNamers records with_it) (sym grows) (record {
      notes = omega (arith, long, length-append namers (None ∷ []), is.notes, longer);
      from = λ n k found held names.
          let among = within (journal ++ item ∷ []) k found held in
          elim (cases_lt (length journal) k) [
            | inl after ↦ own n k found held names after (omega (arith, among.1, longer))
            | inr before ↦ old n k found names (old-record journal item found k (omega (arith, before)) held)
          ];
    })
  where
    longer : length (journal ++ item ∷ []) ≡ length journal + 1
    longer = length-append journal (item ∷ [])

    old : (n k : ℕ) (found : Record) → names_line_of n found.what ≡ true → record_at journal k ≡ Some found → (0 < n) × (n < k) × IsFrom (taker with_it n) k
    old n k found names held =
        let was = is.from n k found held names in
        (was.0, was.1, keeps n k (subst (λ o. IsFrom o k) (sym (taker-snoc namers n)) was.2))

    own : (n k : ℕ) (found : Record) → record_at (journal ++ item ∷ []) k ≡ Some found → names_line_of n found.what ≡ true → length journal < k → k ≤ length journal + 1
        → (0 < n) × (n < k) × IsFrom (taker with_it n) k
    own n k found held names after last =
        let same : names_line_of n item.what ≡ true = ap (λ (r : Record). names_line_of n r.what) (new-record journal item found k after last held) ∙ names in
        let target = named-held journal (targets_of item.what) n (first_line-none (lacks_target journal) 1 (targets_of item.what) none.known) same in
        let noted = named n target.0 (omega (arith, target.1, length-append namers (None ∷ []), is.notes)) same in
        let at : by.0 ≡ k = omega (arith, number, after, last) in
        (target.0, omega (arith, target.1, after), subst (IsFrom (taker with_it n)) at noted)

-- and with one less
pub namers-pop : (journal front : List Record) (last : Record) (namers less : List (Option RecordNo)) → journal ≡ front ++ last ∷ [] → less ≡ take (length front) namers → AreNamers journal namers → AreNamers front less
namers-pop journal front last namers less ends taken journal_is =
    let is = subst (λ (records : List Record). AreNamers records namers) ends journal_is in
    subst (AreNamers front) (sym taken) (record {
      notes = length-take-le (length front) namers (omega (arith, is.notes, length-append front (last ∷ [])));
      from = λ n k item held names.
          let was = is.from n k item (record_at-append front (last ∷ []) k item held) names in
          let among = within front k item held in
          (was.0, was.1, subst (λ o. IsFrom o k) (sym (taker-take namers (length front) n (omega (arith, was.1, among.1)))) was.2);
    })

-- where none of the first ones passes a test, the first one that passes it is among the others
module _ {X : Type 0} (test : ℕ × X → Bool) where
  pub find-drop : (k i : ℕ) (xs : List X) → ((j : ℕ) (x : X) → j < i → slice_get xs j ≡ Some x → test (k + j, x) ≡ false) → find test (enumerate_from (k + i) (drop i xs)) ≡ find test (enumerate_from k xs)
  find-drop k zero xs fails = let at : k + 0 ≡ k = omega arith in ap (λ (m : ℕ). find test (enumerate_from m xs)) at
  find-drop k (suc i) [] fails = refl
  find-drop k (suc i) (x ∷ xs) fails =
      let at : k + suc i ≡ k + 1 + i = omega arith in
      let start : k + 0 ≡ k = omega arith in
      let own : test (k, x) ≡ false = ap (λ (m : ℕ). test (m, x)) (sym start) ∙ fails zero x (omega arith) refl in
      ap (λ (m : ℕ). find test (enumerate_from m (drop i xs))) at
      ∙ find-drop (k + 1) i xs (λ j y first is. later j y first is)
      ∙ sym (rw own refl)
    where
      later : (j : ℕ) (y : X) → j < i → slice_get xs j ≡ Some y → test (k + 1 + j, y) ≡ false
      later j y first is =
          let at : k + 1 + j ≡ k + suc j = omega arith in
          ap (λ (m : ℕ). test (m, y)) at ∙ fails (suc j) y (omega (arith, first)) is

-- a record of which a later one is the first that names it doesn't
and-false : (a b : Bool) → b ≡ false → (a && b) ≡ false
and-false true b fails = fails
and-false false b fails = refl

-- the first record that names a line of the one with this number, where those before an index name none
pub first_link-from : (journal : List Record) (n first i : ℕ) → ((k : ℕ) (item : Record) → record_at journal k ≡ Some item → names_line_of n item.what ≡ true → first ≤ k) → i ≡ first - 1
    → find (is_link journal n) (enumerate_from (i + 1) (drop i journal)) ≡ first_link journal n
first_link-from journal n first i from start =
    let at : i + 1 ≡ 1 + i = omega arith in
    ap (λ (m : ℕ). find (is_link journal n) (enumerate_from m (drop i journal))) at ∙ find-drop (is_link journal n) 1 i journal (λ j item before held. fails j item before held)
  where
    fails : (j : ℕ) (item : Record) → j < i → slice_get journal j ≡ Some item → is_link journal n (1 + j, item) ≡ false
    fails j item before held =
        let step : (b : Bool) → names_line_of n item.what ≡ b → is_link journal n (1 + j, item) ≡ false =
        λ b. elim b as (λ v. names_line_of n item.what ≡ v → is_link journal n (1 + j, item) ≡ false) [
          | true ↦ λ is. absurd (omega (arith, from (suc j) item held is, before, start))
          | false ↦ λ is. and-false (is_live journal (1 + j)) (names_line_of n item.what) is
        ] in
        step (names_line_of n item.what) refl

-- where nothing is noted of a record, no record names a line of it
pub first_link-none : (journal : List Record) (namers : List (Option RecordNo)) (n : ℕ) → AreNamers journal namers → taker namers n ≡ None → first_link journal n ≡ None
first_link-none journal namers n is none =
    sym (first_link-from journal n (length journal + 1) (length journal) (λ k item held names. absurd (subst (λ o. IsFrom o k) none (is.from n k item held names).2)) (omega arith))
    ∙ ap (λ (rest : List Record). find (is_link journal n) (enumerate_from (length journal + 1) rest)) (drop_all (length journal) journal (omega arith))

-- and where one is, those before it don't
pub first_link-noted : (journal : List Record) (namers : List (Option RecordNo)) (n : ℕ) (first : RecordNo) → AreNamers journal namers → taker namers n ≡ Some first
    → (k : ℕ) (item : Record) → record_at journal k ≡ Some item → names_line_of n item.what ≡ true → first.0 ≤ k
first_link-noted journal namers n first is noted k item held names = subst (λ o. IsFrom o k) noted (is.from n k item held names).2

-- where a line of a record is named, some target is one
pub named-at : (targets : List NamedTarget) (n : ℕ) → list_any (is_line_of n) targets ≡ true
    → (j : ℕ) × (j < length targets) × (option_map_or (is_line_of n) (slice_get targets j) false ≡ true)
named-at [] n names = cc
named-at (named ∷ targets) n names =
    let step : (b : Bool) → is_line_of n named ≡ b → (b || list_any (is_line_of n) targets) ≡ true
    → (j : ℕ) × (j < length (named ∷ targets)) × (option_map_or (is_line_of n) (slice_get (named ∷ targets) j) false ≡ true) =
    λ b. elim b as (λ v. is_line_of n named ≡ v → (v || list_any (is_line_of n) targets) ≡ true
    → (j : ℕ) × (j < length (named ∷ targets)) × (option_map_or (is_line_of n) (slice_get (named ∷ targets) j) false ≡ true)) [
      | true ↦ λ is h. (0, omega arith, is)
      | false ↦ λ is h. let found = named-at targets n h in (suc found.0, omega (arith, found.1), found.2)
    ] in
    step (is_line_of n named) refl names

-- where the one at an index does not pass, the first that does is after it
find-step : {X : Type 0} (test : ℕ × X → Bool) (k i : ℕ) (xs : List X) → ((x : X) → slice_get xs i ≡ Some x → test (k, x) ≡ false)
    → find test (enumerate_from k (drop i xs)) ≡ find test (enumerate_from (k + 1) (drop (suc i) xs))
find-step test k zero [] fails = refl
find-step test k zero (x ∷ xs) fails = rw (fails x refl) refl
find-step test k (suc i) [] fails = refl
find-step test k (suc i) (x ∷ xs) fails = find-step test k i xs fails

pub link-step : (journal : List Record) (n i : ℕ) → ((item : Record) → slice_get journal i ≡ Some item → is_link journal n (i + 1, item) ≡ false)
    → find (is_link journal n) (enumerate_from (i + 1 + 1) (drop (i + 1) journal)) ≡ find (is_link journal n) (enumerate_from (i + 1) (drop i journal))
link-step journal n i fails =
    ap (λ (k : ℕ). find (is_link journal n) (enumerate_from (i + 1 + 1) (drop k journal))) (add-one i) ∙ sym (find-step (is_link journal n) (i + 1) i journal fails)

-- a record that is not in force is no link
pub gone-link : (journal : List Record) (n k : ℕ) (item : Record) → is_live journal k ≡ false → is_link journal n (k, item) ≡ false
gone-link journal n k item gone = ap (λ (b : Bool). b && names_line_of n item.what) gone

-- nor is one that names no line
pub other-link : (journal shown : List Record) (n i : ℕ) (seen item : Record) → shown ≡ journal → i < length shown → seen ≡ get_or shown i seen → names_line_of n seen.what ≡ false
    → slice_get journal i ≡ Some item → is_link journal n (i + 1, item) ≡ false
other-link journal shown n i seen item same within is names held =
    let found : slice_get shown i ≡ Some seen = slice_get_read shown (length shown) i seen refl within is in
    let one : Some seen ≡ Some item = sym found ∙ ap (λ (records : List Record). slice_get records i) same ∙ held in
    let equal : seen ≡ item = cc in
    and-false (is_live journal (i + 1)) (names_line_of n item.what) (ap (λ (r : Record). names_line_of n r.what) (sym equal) ∙ names)
