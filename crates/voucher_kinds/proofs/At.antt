-- The record with a number, as an index finds it.
use Rattle.std.proofs.Common.{◌≡◌, ℕ, zero, suc, ◌+◌, ◌-◌, ◌<◌, ◌≤◌, List, [], ◌∷◌, ◌++◌, length, take, drop, get_or, Some, refl, sym, ap, ◌∙◌, arith}
use Rattle.std.proofs.lemmas.Option.{slice_get_read}
use Rattle.std.proofs.lemmas.List.{append-nil, take_more, take_all, drop_all}
use Rattle.std.proofs.Math.Seq.{take-length, take-append_seam}
use Rattle.stock_model.specs.declared.records.Record.{Record}
use Rattle.stock_model.specs.Masters.{record_at}
use Rattle.stock_model.specs.Entries.{entries, entries_of}

-- the record with a number is the one before which number - 1 stand
pub record_at-index : (journal : List Record) (n : ℕ) (item : Record) → 0 < n → n ≤ length journal → item ≡ get_or journal (n - 1) item → record_at journal n ≡ Some item
record_at-index journal zero item one held is = absurd (omega arith)
record_at-index journal (suc n) item one held is =
    let before : suc n - 1 ≡ n = omega arith in
    slice_get_read journal (length journal) n item refl (omega arith) (is ∙ ap (λ (i : ℕ). get_or journal i item) before)

-- its movements are read in the journal before it
pub entries_of-index : (journal : List Record) (n : ℕ) (item : Record) → 0 < n → n ≤ length journal → item ≡ get_or journal (n - 1) item → entries_of journal n ≡ entries (take (n - 1) journal) item
entries_of-index journal n item one held is =
    rw (record_at-index journal n item one held is) (append-nil (entries (take (n - 1) journal) item))

get_or-last : {X : Type 0} (xs : List X) (x d : X) → get_or (xs ++ x ∷ []) (length xs) d ≡ x
get_or-last [] x d = refl
get_or-last (y ∷ ys) x d = get_or-last ys x d

-- the last record of a journal with one more is that one
pub last-pushed : (journal new : List Record) (n : ℕ) (item last : Record) → new ≡ journal ++ item ∷ [] → n ≡ length journal + 1 → last ≡ get_or new (n - 1) last → last ≡ item
last-pushed journal new n item last grows number is =
    let index : n - 1 ≡ length journal = omega (arith, number) in
    is ∙ ap (λ (all : List Record). get_or all (n - 1) last) grows ∙ ap (λ (i : ℕ). get_or (journal ++ item ∷ []) i last) index ∙ get_or-last journal item last

-- a journal is its records before the last one, and that one
pub journal-last : (journal shown : List Record) (count : ℕ) (last : Record) → 0 < length journal → shown ≡ journal → count ≡ length shown → last ≡ get_or shown (count - 1) last
    → journal ≡ take (count - 1) journal ++ last ∷ []
journal-last journal shown count last some same counted is =
    let all : count - 1 + 1 ≡ length journal = omega (arith, ap (λ (records : List Record). length records) same) in
    sym (take-length journal) ∙ ap (λ (k : ℕ). take k journal) (sym all) ∙ take_more journal (count - 1) last (omega arith)
    ∙ ap (λ (r : Record). take (count - 1) journal ++ r ∷ []) (sym (is ∙ ap (λ (records : List Record). get_or records (count - 1) last) same))

-- a list that was changed in its place, and none of it was beyond
pub whole-of : {X : Type 0} (n : ℕ) (xs ys : List X) → length xs ≡ length ys → n ≡ length ys → take n (xs ++ drop (length xs) ys) ≡ xs
whole-of n xs ys same count =
    ap (λ rest. take n (xs ++ rest)) (drop_all (length xs) ys (omega (arith, same))) ∙ ap (take n) (append-nil xs) ∙ take_all n xs (omega (arith, same, count))

-- a list to which one was added, cut back to what it had
pub without-new : {X : Type 0} (xs : List X) (x : X) (longer : List X) (n count : ℕ) → longer ≡ xs ++ x ∷ [] → n ≡ count + 1 → length xs ≡ count → take (n - 1) longer ≡ xs
without-new xs x longer n count grows number counted =
    let index : n - 1 ≡ length xs = omega (arith, number, counted) in
    ap (take (n - 1)) grows ∙ ap (λ (k : ℕ). take k (xs ++ x ∷ [])) index ∙ take-append_seam xs (x ∷ [])
