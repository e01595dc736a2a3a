-- Rows of movements in blocks: one block more, and what stands between two indexes.
use Rattle.std.proofs.Common.{◌≡◌, ℕ, ◌+◌, ◌-◌, ◌<◌, ◌≤◌, List, [], ◌∷◌, ◌++◌, length, get_or, take, drop, map, sym, ap, ◌∙◌, arith}
use Rattle.std.proofs.lemmas.List.{append-nil, map-append, take_more, take-take, drop-drop}
use Rattle.std.proofs.lemmas.List.Concat.{flat_map-append}
use Rattle.std.specs.List.{flat_map}
use Rattle.stock_nums.specs.declared.entry.Row.{Row}
use Rattle.repost_frontier.specs.declared.slot.Slot.{Slot}
use Rattle.repost_build.specs.Rows.{slot_row}
use Rattle.repost_build.proofs.Rows.{take-both, front-next}

-- the items of all blocks
abbrev pub joined : {A : Type 0} → List (List A) → List A
joined blocks = flat_map (λ block. block) blocks

pub joined-more : {A : Type 0} (blocks : List (List A)) (block : List A) → joined (blocks ++ block ∷ []) ≡ joined blocks ++ block
joined-more {A = A} blocks block =
    flat_map-append (λ (z : List A). z) blocks (block ∷ []) ∙ ap (λ (z : List A). joined blocks ++ z) (append-nil block)

-- the rows of the first movements, and of some that follow
pub rows-both : (slots : List Slot) (n m : ℕ) → map slot_row (take (n + m) slots) ≡ map slot_row (take n slots) ++ map slot_row (take m (drop n slots))
rows-both slots n m = ap (map slot_row) (take-both n m slots) ∙ map-append slot_row (take n slots) (take m (drop n slots))

-- blocks of the first movements, and one of those that follow
pub rows-block : (slots : List Slot) (n m : ℕ) (before after : List (List Row)) (block : List Row)
    → joined before ≡ map slot_row (take n slots) → block ≡ map slot_row (take m (drop n slots)) → after ≡ before ++ block ∷ []
    → joined after ≡ map slot_row (take (n + m) slots)
rows-block slots n m before after block so_far next now =
    ap joined now ∙ joined-more before block
    ∙ ap (λ (rows : List Row). rows ++ block) so_far
    ∙ ap (λ (rows : List Row). map slot_row (take n slots) ++ rows) next
    ∙ sym (rows-both slots n m)

-- the rows with one more, where it is the next movement's
pub same-next : (slots : List Slot) (rows : List Row) (i : ℕ) (s : Slot) (r : Row) → i < length slots → i < length rows → s ≡ get_or slots i s
    → r ≡ get_or rows i r → r ≡ slot_row s → take i rows ≡ map slot_row (take i slots) → take (i + 1) rows ≡ map slot_row (take (i + 1) slots)
same-next slots rows i s r within inside is at same so_far =
    take_more rows i r inside
    ∙ ap (λ (x : Row). take i rows ++ x ∷ []) (sym at ∙ same)
    ∙ ap (λ (xs : List Row). xs ++ slot_row s ∷ []) so_far
    ∙ sym (map-append slot_row (take i slots) (s ∷ []))
    ∙ ap (map slot_row) (sym (front-next slots i s within is))

-- the first of those side by side, among the movements from an index on
run-front : (slots run : List Slot) (from i k : ℕ) → run ≡ take (length run) (drop i slots) → k ≤ length run → from ≤ i
    → take k run ≡ take k (drop (i - from) (drop from slots))
run-front slots run from i k beside some begun =
    ap (take k) beside
    ∙ take-take k (length run) (drop i slots) some
    ∙ ap (λ (n : ℕ). take k (drop n slots)) (omega (arith, begun))
    ∙ ap (take k) (sym (drop-drop (i - from) from slots))

-- some of those side by side come after the others from an index on
pub rows-some : (slots run : List Slot) (from i k : ℕ) (old new : List Row) → run ≡ take (length run) (drop i slots) → k ≤ length run → from ≤ i
    → old ≡ map slot_row (take (i - from) (drop from slots)) → new ≡ old ++ map slot_row (take k run)
    → new ≡ map slot_row (take (i + k - from) (drop from slots))
rows-some slots run from i k old new beside some begun so_far now =
    now ∙ ap (λ (rows : List Row). rows ++ map slot_row (take k run)) so_far
    ∙ ap (λ (ss : List Slot). map slot_row (take (i - from) (drop from slots)) ++ map slot_row ss) (run-front slots run from i k beside some begun)
    ∙ sym (rows-both (drop from slots) (i - from) k)
    ∙ ap (λ (n : ℕ). map slot_row (take n (drop from slots))) (omega (arith, begun))

-- and some rows are those of movements where the next ones are
pub same-some : (slots run : List Slot) (rows : List Row) (start i k : ℕ) → run ≡ take (length run) (drop i slots) → k ≤ length run → start ≤ i
    → take (i - start) rows ≡ map slot_row (take (i - start) (drop start slots))
    → take k (drop (i - start) rows) ≡ map slot_row (take k run)
    → take (i + k - start) rows ≡ map slot_row (take (i + k - start) (drop start slots))
same-some slots run rows start i k beside some begun so_far next =
    ap (λ (n : ℕ). take n rows) (omega (arith, begun))
    ∙ take-both (i - start) k rows
    ∙ rows-some slots run start i k (take (i - start) rows) (take (i - start) rows ++ take k (drop (i - start) rows)) beside some begun so_far
    (ap (λ (xs : List Row). take (i - start) rows ++ xs) next)
