-- The bytes of an inbox, as its buffer holds them.
use Rattle.std.proofs.Common.{◌≡◌, ℕ, ◌+◌, ◌-◌, ◌≤◌, List, [], ◌++◌, length, take, drop, sym, ap, ◌∙◌, arith, length-append, length-drop, slice_range, Option, Some, None, append-nil}
use Rattle.std.specs.List.{copy_within}
use Rattle.std.specs.Io.KnownBytes.{Consumes, Keeps}
use Rattle.std.proofs.Math.Seq.{take-add, take-append_seam}
use Rattle.std.proofs.lemmas.List.{drop-drop, drop-take, length-take-le, nil_from_length}
use Rattle.httparse.proofs.RunLemmas.{length-slice_range}
use Rattle.desk_wire.specs.Waiting.{Waiting}
use Rattle.desk_wire.specs.Streams.{TakesIn}

-- the front of a buffer whose waiting bytes were moved there
pub moved-front : (items : List ℕ) (start end : ℕ) → start ≤ end → end ≤ length items
    → take (end - start) (copy_within items start end 0) ≡ slice_range items start end
moved-front items start end ordered fits =
    let front = take (end - start) (drop start items) in
    let later = drop (0 + (end - start)) items in
    let len : length front ≡ end - start = length-take-le (end - start) (drop start items) (omega (arith, length-drop start items)) in
    ap (λ k. take k (front ++ later)) (sym len) ∙ take-append_seam front later

-- a slice of the front, cut at its first part
pub slice_range-add : (items : List ℕ) (at n : ℕ) → slice_range items 0 (at + n) ≡ take at items ++ slice_range items at (at + n)
slice_range-add items at n =
    let count : at + n - at ≡ n = omega arith in
    let all : at + n - 0 ≡ at + n = omega arith in
    ap (λ k. take k items) all ∙ take-add at n items ∙ ap (λ k. take at items ++ take k (drop at items)) (sym count)

-- the bytes that are left once some were passed on
pub slice_range-later : (items : List ℕ) (start end count : ℕ) → count ≤ end - start → slice_range items (start + count) end ≡ drop count (slice_range items start end)
slice_range-later items start end count within =
    let sum : end - start ≡ count + (end - start - count) = omega arith in
    let left : end - (start + count) ≡ end - start - count = omega arith in
    ap (λ k. take k (drop (start + count) items)) left
    ∙ ap (take (end - start - count)) (sym (drop-drop count start items))
    ∙ sym (ap (λ k. drop count (take k (drop start items))) sum ∙ drop-take count (end - start - count) (drop start items))

-- a slice that was lent again as it was written
pub written_again : (items moved again : List ℕ) (len : ℕ) → length moved ≡ len
    → again ≡ take len (moved ++ drop (length moved) items) → again ≡ moved
written_again items moved again len same is =
    is ∙ ap (λ k. take k (moved ++ drop (length moved) items)) (sym same) ∙ take-append_seam moved (drop (length moved) items)

-- what was read behind the bytes that were moved to the front
pub piece_taken : {S : Type 0} (left : S → Option (List ℕ)) (taken : S → ℕ) (waits : Waiting) (source source' : S)
    (items moved again read shown_now : List ℕ) (start end n spare : ℕ)
    → ◌≡◌ {A = Waiting} (record { bytes = slice_range items start end; spare = spare }) waits
    → take (end - start) moved ≡ slice_range items start end → again ≡ moved
    → take (end - start) read ≡ take (end - start) again → end - start + n ≤ length read → n ≤ spare
    → Consumes (left source) (left source') (slice_range read (end - start) (end - start + n)) → taken source' ≡ taken source + n
    → shown_now ≡ read
    → TakesIn left taken waits (record { bytes = slice_range shown_now 0 (end - start + n); spare = spare - n }) source source'
piece_taken left taken waits source source' items moved again read shown_now start end n spare shown front same kept fits within took counted now =
    let at = end - start in
    let piece = slice_range read at (at + n) in
    let len : length piece ≡ n = omega (arith, length-slice_range read at (at + n) (omega arith) fits) in
    record {
      piece = piece;
      behind = ap (λ (l : List ℕ). slice_range l 0 (at + n)) now ∙ slice_range-add read at n
          ∙ ap (λ (l : List ℕ). l ++ piece) (kept ∙ ap (take at) same ∙ front ∙ ap (λ (w : Waiting). w.bytes) shown);
      spare = omega (arith, ap (λ (w : Waiting). w.spare) shown, len);
      took = took;
      counted = counted ∙ ap (λ k. taken source + k) (sym len);
    }

-- where the read failed, nothing was taken
Keeps-nothing : (a b : Option (List ℕ)) → Keeps a b → Consumes a b []
Keeps-nothing None b kept = tt
Keeps-nothing (Some x) None kept = absurd kept
Keeps-nothing (Some x) (Some y) kept = sym kept

pub none_taken : {S : Type 0} (left : S → Option (List ℕ)) (taken : S → ℕ) (waits : Waiting) (source source' : S)
    (items moved again read shown_now : List ℕ) (start end spare : ℕ)
    → ◌≡◌ {A = Waiting} (record { bytes = slice_range items start end; spare = spare }) waits
    → take (end - start) moved ≡ slice_range items start end → again ≡ moved
    → take (end - start) read ≡ take (end - start) again
    → Keeps (left source) (left source') → taken source' ≡ taken source → shown_now ≡ read
    → TakesIn left taken waits (record { bytes = slice_range shown_now 0 (end - start); spare = spare }) source source'
none_taken left taken waits source source' items moved again read shown_now start end spare shown front same kept took counted now =
    let at = end - start in
    let all : at - 0 ≡ at = omega arith in
    record {
      piece = [];
      behind = ap (λ (l : List ℕ). slice_range l 0 at) now ∙ ap (λ k. take k read) all ∙ kept ∙ ap (take at) same ∙ front
          ∙ ap (λ (w : Waiting). w.bytes) shown ∙ sym (append-nil waits.bytes);
      spare = omega (arith, ap (λ (w : Waiting). w.spare) shown);
      took = Keeps-nothing (left source) (left source') took;
      counted = omega (arith, counted);
    }

-- no byte came
pub nothing_new : {S : Type 0} (left : S → Option (List ℕ)) (taken : S → ℕ) (waits waits' : Waiting) (source source' : S)
    → TakesIn left taken waits waits' source source' → length waits'.bytes ≡ length waits.bytes → waits'.bytes ≡ waits.bytes
nothing_new left taken waits waits' source source' takes_in same =
    let none : takes_in.piece ≡ [] =
    nil_from_length takes_in.piece (omega (arith, same, ap (λ (l : List ℕ). length l) takes_in.behind, length-append waits.bytes takes_in.piece)) in
    takes_in.behind ∙ ap (λ (l : List ℕ). waits.bytes ++ l) none ∙ append-nil waits.bytes
