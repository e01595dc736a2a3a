-- One more record is read: its movements go to the end if it passes, and no longer are to come.
use Rattle.std.proofs.Common.{◌≡◌, ℕ, zero, suc, ◌+◌, ◌-◌, ◌<◌, ◌≤◌, Bool, true, false, List, [], ◌∷◌, ◌++◌, length, get_or, take, drop, filter, drop-cons, refl, sym, ap, ◌∙◌, add-one, append_assoc, arith, length-take}
use Rattle.std.proofs.lemmas.List.{take_more, take-take, get_or-take}
use Rattle.std.proofs.lemmas.List.Elements.{filter-append}
use Rattle.stock_nums.specs.declared.entry.Entry.{Entry}
use Rattle.stock_model.specs.Entries.{entries, entries_after, entries_of}
use Rattle.stock_model.specs.declared.records.Record.{Record}
use Rattle.stock_laws.proofs.LiveEntries.{IsOfNumber, movements-number, filter-passes, filter-fails}
use Rattle.voucher_kinds.proofs.At.{entries_of-index}

-- what stands at an index of a list
pub at-index : {X : Type 0} (xs : List X) (i : ℕ) → i < length xs → (x : X) × (x ≡ get_or xs i x)
at-index [] i within = absurd (omega (arith, within))
at-index (x ∷ xs) zero within = (x, refl)
at-index (x ∷ xs) (suc i) within = at-index xs i (omega (arith, within))

-- the rest begins with the next
pub rest-next : {X : Type 0} (xs : List X) (i : ℕ) (x : X) → i < length xs → x ≡ get_or xs i x → drop i xs ≡ x ∷ drop (i + 1) xs
rest-next {X} xs i x within is = rw add-one (drop-cons xs i x within ∙ ap (λ (y : X). y ∷ drop (suc i) xs) (sym is))

-- the movements of a record are read in those before it
pub entries_of-at : (journal : List Record) (n : ℕ) (item : Record) → n < length journal → item ≡ get_or journal n item
    → entries_of journal (n + 1) ≡ entries (take n journal) item
entries_of-at journal n item within is =
    let back : n + 1 - 1 ≡ n = omega arith in
    entries_of-index journal (n + 1) item (omega arith) (omega (arith, within)) (is ∙ ap (λ (i : ℕ). get_or journal i item) (sym back))
    ∙ ap (λ (i : ℕ). entries (take i journal) item) back

-- those of one of the first records are the same in the journal of these
pub entries_of-take : (journal : List Record) (m n : ℕ) → n < m → m ≤ length journal → entries_of journal (n + 1) ≡ entries_of (take m journal) (n + 1)
entries_of-take journal m n within held =
    let here = at-index journal n (omega (arith, within, held)) in
    let item = here.0 in
    let count : n < length (take m journal) = omega (arith, length-take m journal, within, held) in
    entries_of-at journal n item (omega (arith, within, held)) here.1
    ∙ ap (λ (front : List Record). entries front item) (sym (take-take n m journal (omega (arith, within))))
    ∙ sym (entries_of-at (take m journal) n item count (here.1 ∙ sym (get_or-take m journal n item within)))

-- the rest of the records begins with the next, which is read in those before it
entries_after-next : (journal : List Record) (n : ℕ) (item : Record) → n < length journal → item ≡ get_or journal n item
    → entries_after (take n journal) (drop n journal)
    ≡ entries (take n journal) item ++ entries_after (take (n + 1) journal) (drop (n + 1) journal)
entries_after-next journal n item within is =
    let front : take (n + 1) journal ≡ take n journal ++ item ∷ [] =
    take_more journal n item within ∙ ap (λ (r : Record). take n journal ++ r ∷ []) (sym is) in
    ap (entries_after (take n journal)) (rest-next journal n item within is)
    ∙ ap (λ (done : List Record). entries (take n journal) item ++ entries_after done (drop (n + 1) journal)) (sym front)

-- where movements pass by their record's number
module _ (p : Entry → Bool) (test : ℕ → Bool) (by_number : (e : Entry) → p e ≡ test e.place.voucher.0) (journal : List Record) (n : ℕ)
    (within : n < length journal) where
  abbrev to_come : ℕ → List Entry
  to_come k = filter p (entries_after (take k journal) (drop k journal))

  -- the movements of the next are among those to come
  next-of : to_come n ≡ filter p (entries_of journal (n + 1)) ++ to_come (n + 1)
  next-of =
      let here = at-index journal n within in
      let rest = entries_after (take (n + 1) journal) (drop (n + 1) journal) in
      ap (filter p) (entries_after-next journal n here.0 within here.1)
      ∙ filter-append p (entries (take n journal) here.0) rest
      ∙ ap (λ (es : List Entry). filter p es ++ filter p rest) (sym (entries_of-at journal n here.0 within here.1))

  -- each of them has the record's number
  own-test : (b : Bool) → test (n + 1) ≡ b → (e : Entry) → IsOfNumber (length (take n journal) + 1) e → p e ≡ b
  own-test b is e own =
      let number : e.place.voucher.0 ≡ n + 1 = omega (arith, own, length-take n journal, within) in
      by_number e ∙ ap test number ∙ is

  -- it passes
  pub passed-next : (old own new all : List Entry) → test (n + 1) ≡ true → own ≡ entries_of journal (n + 1) → new ≡ old ++ own
      → old ++ to_come n ≡ all → new ++ to_come (n + 1) ≡ all
  passed-next old own new all passes read added so_far =
      let here = at-index journal n within in
      let made = entries_of-at journal n here.0 within here.1 in
      let number = IsOfNumber (length (take n journal) + 1) in
      let kept : filter p (entries_of journal (n + 1)) ≡ entries_of journal (n + 1) =
      ap (filter p) made
      ∙ filter-passes number p (own-test true passes) (entries (take n journal) here.0)
      (movements-number (take n journal) (length (take n journal) + 1) here.0.what)
      ∙ sym made in
      ap (λ (es : List Entry). es ++ to_come (n + 1)) (added ∙ ap (λ (es : List Entry). old ++ es) (read ∙ sym kept))
      ∙ append_assoc old (filter p (entries_of journal (n + 1))) (to_come (n + 1))
      ∙ ap (λ (es : List Entry). old ++ es) (sym next-of) ∙ so_far

  -- it does not
  pub left-out : (old all : List Entry) → test (n + 1) ≡ false → old ++ to_come n ≡ all → old ++ to_come (n + 1) ≡ all
  left-out old all fails so_far =
      let here = at-index journal n within in
      let made = entries_of-at journal n here.0 within here.1 in
      let number = IsOfNumber (length (take n journal) + 1) in
      let none : filter p (entries_of journal (n + 1)) ≡ [] =
      ap (filter p) made
      ∙ filter-fails number p (own-test false fails) (entries (take n journal) here.0)
      (movements-number (take n journal) (length (take n journal) + 1) here.0.what) in
      ap (λ (es : List Entry). old ++ es) (sym (next-of ∙ ap (λ (es : List Entry). es ++ to_come (n + 1)) none)) ∙ so_far
