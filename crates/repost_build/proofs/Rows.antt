-- The rows of what was found are those of the movements.
use Rattle.std.proofs.Common.{◌≡◌, ℕ, suc, ◌+◌, ◌<◌, Bool, true, false, cond, List, [], ◌∷◌, ◌++◌, length, take, drop, get_or, map, filter, Option, Some, None, Contains, refl, sym, ap, ◌∙◌, arith}
use Rattle.std.proofs.Math.Seq.{take-suc}
use Rattle.std.proofs.lemmas.List.{append_assoc, map-append, take-append-drop, take-take, drop-take}
use Rattle.std.proofs.lemmas.List.Elements.{filter-append}
use Rattle.std.specs.Option.{option_map_or}
use Rattle.stock_nums.specs.declared.entry.Row.{Row}
use Rattle.stock_model.specs.InOrder.{IsInPostingOrder}
use Rattle.stock_model.proofs.Pairwise.{Contains-first, Contains-later}
use Rattle.repost_fetch.specs.Changes.{is_valued}
use Rattle.repost_frontier.specs.Readings.{found_of, revalued_of, slot_found}
use Rattle.repost_frontier.specs.Slots.{slot_at, slot_entry, is_revalued}
use Rattle.repost_frontier.specs.declared.slot.Slot.{Slot}
use Rattle.repost_frontier.proofs.SlotPlaces.{Contains-found}
use Rattle.repost_laws.specs.Valuations.{found_row, found_rows, worth_of, no_worth}
use Rattle.repost_build.specs.Rows.{slot_row, valued_rows}

-- each of them is found at its place
abbrev AreFound : List Slot → List Slot → Type 0
AreFound slots part = (s : Slot) → Contains part s → slot_at slots s.entry.place ≡ Some s

later : (slots : List Slot) (s : Slot) (part : List Slot) → AreFound slots (s ∷ part) → AreFound slots part
later slots s part found t held = found t (Contains-later s part t held)

rows-part : (slots part : List Slot) → AreFound slots part → map slot_row part ≡ found_rows (found_of slots) (map slot_entry part)
rows-part slots [] found = refl
rows-part slots (s ∷ part) found =
    let there = found s (Contains-first s part) in
    let own : slot_row s ≡ found_row (found_of slots) s.entry =
    ap (λ (o : Option Slot). record { entry = s.entry; worth = option_map_or worth_of (option_map_or slot_found o None) no_worth }) (sym there) in
    ap (λ (r : Row). r ∷ map slot_row part) own
    ∙ ap (λ (rows : List Row). found_row (found_of slots) s.entry ∷ rows) (rows-part slots part (later slots s part found))

valued-part : (slots part : List Slot) → AreFound slots part
    → filter (is_valued (revalued_of slots)) (map slot_row part) ≡ valued_rows part
valued-part slots [] found = refl
valued-part slots (s ∷ part) found =
    let there = found s (Contains-first s part) in
    let own : revalued_of slots s.entry.place ≡ is_revalued s = ap (λ (o : Option Slot). option_map_or is_revalued o false) there in
    let rows = filter (is_valued (revalued_of slots)) (map slot_row part) in
    ap (λ (b : Bool). cond b (slot_row s ∷ rows) rows) own
    ∙ ap (λ (rest : List Row). cond (is_revalued s) (slot_row s ∷ rest) rest) (valued-part slots part (later slots s part found))
    ∙ by_cases (is_revalued s)
  where
    by_cases : (b : Bool) → cond b (slot_row s ∷ valued_rows part) (valued_rows part)
        ≡ map slot_row (cond b (s ∷ filter is_revalued part) (filter is_revalued part))
    by_cases true = refl
    by_cases false = refl

-- the rows of those that were valued since are those of what was found
pub valued-rows : (slots : List Slot) → IsInPostingOrder (map slot_entry slots)
    → valued_rows slots ≡ filter (is_valued (revalued_of slots)) (found_rows (found_of slots) (map slot_entry slots))
valued-rows slots in_order =
    let found : AreFound slots slots = λ s held. Contains-found slots s in_order held in
    sym (valued-part slots slots found) ∙ ap (filter (is_valued (revalued_of slots))) (rows-part slots slots found)

-- the first ones with one more
pub front-next : (slots : List Slot) (i : ℕ) (s : Slot) → i < length slots → s ≡ get_or slots i s → take (i + 1) slots ≡ take i slots ++ s ∷ []
front-next slots i s within is =
    let next : i + 1 ≡ suc i = omega arith in
    ap (λ (k : ℕ). take k slots) next ∙ take-suc slots i s within ∙ ap (λ (t : Slot). take i slots ++ t ∷ []) (sym is)

-- and the rows of all are
pub all-rows : (slots : List Slot) → IsInPostingOrder (map slot_entry slots)
    → map slot_row slots ≡ found_rows (found_of slots) (map slot_entry slots)
all-rows slots in_order = rows-part slots slots (λ s held. Contains-found slots s in_order held)

pub valued-append : (xs ys : List Slot) → valued_rows (xs ++ ys) ≡ valued_rows xs ++ valued_rows ys
valued-append xs ys = ap (map slot_row) (filter-append is_revalued xs ys) ∙ map-append slot_row (filter is_revalued xs) (filter is_revalued ys)

-- the rows with one movement more
pub rows-next : (slots : List Slot) (i : ℕ) (s : Slot) (before old new : List Row) → i < length slots → s ≡ get_or slots i s
    → before ≡ old ++ map slot_row (take i slots) → new ≡ before ++ slot_row s ∷ []
    → new ≡ old ++ map slot_row (take (i + 1) slots)
rows-next slots i s before old new within is so_far now =
    let front = front-next slots i s within is in
    now ∙ ap (λ (rows : List Row). rows ++ slot_row s ∷ []) so_far
    ∙ append_assoc old (map slot_row (take i slots)) (slot_row s ∷ [])
    ∙ ap (λ (rows : List Row). old ++ rows) (sym (map-append slot_row (take i slots) (s ∷ [])))
    ∙ ap (λ (ss : List Slot). old ++ map slot_row ss) (sym front)

-- a movement's row, where it was valued
abbrev pub own_row : Bool → Slot → List Row
own_row b s = cond b (slot_row s ∷ []) []

-- the rows with one movement more
pub valued-next : (slots : List Slot) (i : ℕ) (s : Slot) (before old new : List Row) → i < length slots → s ≡ get_or slots i s
    → before ≡ old ++ valued_rows (take i slots) → new ≡ before ++ own_row s.is_revalued s
    → new ≡ old ++ valued_rows (take (i + 1) slots)
valued-next slots i s before old new within is so_far now =
    let front = front-next slots i s within is in
    now ∙ ap (λ (rows : List Row). rows ++ own_row s.is_revalued s) so_far
    ∙ append_assoc old (valued_rows (take i slots)) (own_row s.is_revalued s)
    ∙ ap (λ (rows : List Row). old ++ (valued_rows (take i slots) ++ rows)) (by_cases s.is_revalued)
    ∙ ap (λ (rows : List Row). old ++ rows) (sym (valued-append (take i slots) (s ∷ [])))
    ∙ ap (λ (ss : List Slot). old ++ valued_rows ss) (sym front)
  where
    by_cases : (b : Bool) → own_row b s ≡ map slot_row (cond b (s ∷ []) [])
    by_cases true = refl
    by_cases false = refl

-- the first ones and some that follow
pub take-both : {X : Type 0} (n m : ℕ) (slots : List X) → take (n + m) slots ≡ take n slots ++ take m (drop n slots)
take-both {X = X} n m slots =
    sym (take-append-drop n (take (n + m) slots))
    ∙ ap (λ (ss : List X). ss ++ drop n (take (n + m) slots)) (take-take n (n + m) slots (omega arith))
    ∙ ap (λ (ss : List X). take n slots ++ ss) (drop-take n m slots)

-- the rows of those side by side come after those of the first ones
pub valued-run : (slots run : List Slot) (i : ℕ) (old new : List Row) → run ≡ take (length run) (drop i slots)
    → old ≡ valued_rows (take i slots) → new ≡ old ++ valued_rows run → new ≡ valued_rows (take (i + length run) slots)
valued-run slots run i old new beside so_far now =
    now ∙ ap (λ (rows : List Row). rows ++ valued_rows run) so_far
    ∙ ap (λ (ss : List Slot). valued_rows (take i slots) ++ valued_rows ss) beside
    ∙ sym (valued-append (take i slots) (take (length run) (drop i slots)))
    ∙ ap valued_rows (sym (take-both i (length run) slots))

pub rows-run : (slots run : List Slot) (i : ℕ) (old new : List Row) → run ≡ take (length run) (drop i slots)
    → old ≡ map slot_row (take i slots) → new ≡ old ++ map slot_row run → new ≡ map slot_row (take (i + length run) slots)
rows-run slots run i old new beside so_far now =
    now ∙ ap (λ (rows : List Row). rows ++ map slot_row run) so_far
    ∙ ap (λ (ss : List Slot). map slot_row (take i slots) ++ map slot_row ss) beside
    ∙ sym (map-append slot_row (take i slots) (take (length run) (drop i slots)))
    ∙ ap (map slot_row) (sym (take-both i (length run) slots))
