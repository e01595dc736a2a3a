-- Slices of bytes as a function takes them.
use Rattle.std.proofs.Common.{◌≡◌, ℕ, ◌+◌, ◌-◌, ◌≤◌, List, ◌++◌, length, take, drop, min, sym, ◌∙◌, ap, arith, length-drop, length-take, take-append-drop}
use Rattle.std.proofs.Math.Seq.{take-append_seam, take-length}
use Rattle.std.proofs.lemmas.List.{length-take-le, take-take, drop-drop}

-- the slice from n to the end is what stands past n
pub slice-rest : (bytes : List ℕ) (n : ℕ) → take (length bytes - n) (drop n bytes) ≡ drop n bytes
slice-rest bytes n = ap (λ k. take k (drop n bytes)) (sym (length-drop n bytes)) ∙ take-length (drop n bytes)

-- what was copied to the front of a buffer and what is left are the bytes that were left
pub copied-left : (bytes old : List ℕ) (at most n : ℕ) → n ≤ most → n ≤ length (drop at bytes)
    → drop at bytes ≡ take n (take n (take most (drop at bytes)) ++ drop n old) ++ drop (at + n) bytes
copied-left bytes old at most n within there =
    rw (take-take n most (drop at bytes) within, ← drop-drop n at bytes)
    (let front = take n (drop at bytes) in
    let copied : take n (front ++ drop n old) ≡ front =
    ap (λ k. take k (front ++ drop n old)) (sym (length-take-le n (drop at bytes) there)) ∙ take-append_seam front (drop n old) in
    sym (ap (λ l. l ++ drop n (drop at bytes)) copied ∙ take-append-drop n (drop at bytes)))

-- the same of a piece of the bytes past a place
pub piece-copied : (bytes old : List ℕ) (at most n : ℕ) → n ≡ min (length old) (length (take most (take (length bytes - at) (drop at bytes))))
    → drop at bytes ≡ take n (take n (take most (take (length bytes - at) (drop at bytes))) ++ drop n old) ++ drop (at + n) bytes
piece-copied bytes old at most n count =
    let rest : take (length bytes - at) (drop at bytes) ≡ drop at bytes = slice-rest bytes at in
    let within = rw rest at count in
    rw rest (copied-left bytes old at most n (omega (arith, length-take most (drop at bytes), within)) (omega (arith, length-take most (drop at bytes), within)))
