-- The first movements as ones that were not valued since a publication, further and further.
use Rattle.std.proofs.Common.{◌≡◌, ℕ, zero, suc, ◌+◌, ◌<◌, ◌≤◌, Bool, true, false, cond, nat_lt, List, [], ◌∷◌, length, get_or, map, set, take, drop, slice_get, Some, None, refl, sym, ap, ap₂, ◌∙◌, arith}
use Rattle.std.specs.List.{position, position_or_len}
use Rattle.std.proofs.lemmas.Bool.{ltb-false, ltb-true}
use Rattle.std.proofs.lemmas.List.{get_or-take, get_or-drop, length-take, length-drop}
use Rattle.std.proofs.lemmas.List.Sums.{fails_before_first}
use Rattle.std.proofs.lemmas.Option.{slice_get-get_or}
use Rattle.repost_frontier.specs.Slots.{is_revalued, as_published, published_until}
use Rattle.repost_frontier.specs.declared.slot.Slot.{Slot}

-- what was not valued stays as it is
published-same : (s : Slot) → is_revalued s ≡ false → as_published s ≡ s
published-same s none = let of : Bool → Slot = λ b. record s { is_revalued = b } in ap of (sym none)

published-nil : (n : ℕ) → published_until [] n ≡ []
published-nil zero = refl
published-nil (suc n) = refl

-- none of the first m was valued
abbrev pub AreNotRevalued : List Slot → ℕ → Type 0
AreNotRevalued slots m = (k : ℕ) (d : Slot) → k < m → k < length slots → is_revalued (get_or slots k d) ≡ false

published-none : (slots : List Slot) (m : ℕ) → AreNotRevalued slots m → published_until slots m ≡ slots
published-none [] m none = published-nil m
published-none (s ∷ slots) zero none = refl
published-none (s ∷ slots) (suc m) none =
    ap₂ (λ (t : Slot) ts. t ∷ ts) (published-same s (none zero s (omega arith) (omega arith)))
    (published-none slots m (λ k d less within. none (suc k) d (omega (arith, less)) (omega (arith, within))))

-- it goes on over those that were not valued
pub published-skip : (slots : List Slot) (i m n : ℕ) → n ≡ i + m → AreNotRevalued (drop i slots) m
    → published_until slots n ≡ published_until slots i
published-skip [] i m n is none = published-nil n ∙ sym (published-nil i)
published-skip (s ∷ slots) zero m n is none =
    let same : n ≡ m = omega (arith, is) in
    ap (published_until (s ∷ slots)) same ∙ published-none (s ∷ slots) m none
published-skip (s ∷ slots) (suc i) m zero is none = absurd (omega (arith, is))
published-skip (s ∷ slots) (suc i) m (suc n) is none =
    ap (λ ts. as_published s ∷ ts) (published-skip slots i m n (omega (arith, is)) none)

-- and by one that was
pub published-next : (slots : List Slot) (n : ℕ) (s : Slot) → slice_get slots n ≡ Some s
    → set (published_until slots n) n (as_published s) ≡ published_until slots (suc n)
published-next [] zero s read = cc
published-next [] (suc n) s read = cc
published-next (t ∷ slots) zero s read = let same : s ≡ t = cc in ap (λ (u : Slot). as_published u ∷ slots) same
published-next (t ∷ slots) (suc n) s read = ap (λ ts. as_published t ∷ ts) (published-next slots n s read)

-- to all
pub published-all : (slots : List Slot) (n : ℕ) → length slots ≤ n → published_until slots n ≡ map as_published slots
published-all [] n past = published-nil n
published-all (s ∷ slots) zero past = absurd (omega (arith, past))
published-all (s ∷ slots) (suc n) past = ap (λ ts. as_published s ∷ ts) (published-all slots n (omega (arith, past)))

-- those after it are as they were, and as many as they were
pub drop-published : (slots : List Slot) (n : ℕ) → drop n (published_until slots n) ≡ drop n slots
drop-published [] n = ap (drop n) (published-nil n)
drop-published (s ∷ slots) zero = refl
drop-published (s ∷ slots) (suc n) = drop-published slots n

pub length-published : (slots : List Slot) (n : ℕ) → length (published_until slots n) ≡ length slots
length-published [] n = ap length (published-nil n)
length-published (s ∷ slots) zero = refl
length-published (s ∷ slots) (suc n) =
    let rest = length-published slots n in omega (arith, rest)

-- before the first that was valued none was
position-none : (run : List Slot) → position is_revalued run ≡ None → AreNotRevalued run (length run)
position-none run none k d less within =
    by_cases (nat_lt (position_or_len is_revalued run) (length run)) refl none
  where
    by_cases : (b : Bool) → nat_lt (position_or_len is_revalued run) (length run) ≡ b
        → cond b (Some (position_or_len is_revalued run)) None ≡ None
        → is_revalued (get_or run k d) ≡ false
    by_cases true is h = cc
    by_cases false is h =
        let past = ltb-false (position_or_len is_revalued run) (length run) is in
        fails_before_first is_revalued run k d (omega (arith, past, within))

position-some : (run : List Slot) (i : ℕ) → position is_revalued run ≡ Some i → (i < length run) × AreNotRevalued run i
position-some run i found = by_cases (nat_lt (position_or_len is_revalued run) (length run)) refl found
  where
    by_cases : (b : Bool) → nat_lt (position_or_len is_revalued run) (length run) ≡ b
        → cond b (Some (position_or_len is_revalued run)) None ≡ Some i
        → (i < length run) × AreNotRevalued run i
    by_cases true is h =
        let first : position_or_len is_revalued run ≡ i = cc in
        let inside = ltb-true (position_or_len is_revalued run) (length run) is in
        (omega (arith, first, inside), λ k d less within. fails_before_first is_revalued run k d (omega (arith, first, less)))
    by_cases false is h = cc

-- those that stand beside an index are the next ones of all
run-beside : (slots items run : List Slot) (index : ℕ) → items ≡ published_until slots index
    → run ≡ take (length run) (drop index items)
    → run ≡ take (length run) (drop index slots)
run-beside slots items run index is beside =
    beside ∙ ap (λ (xs : List Slot). take (length run) (drop index xs)) is ∙ ap (take (length run)) (drop-published slots index)

read-beside : (slots run : List Slot) (index k : ℕ) (d : Slot) → run ≡ take (length run) (drop index slots) → k < length run
    → get_or (drop index slots) k d ≡ get_or run k d
read-beside slots run index k d beside less =
    sym (get_or-take (length run) (drop index slots) k d less) ∙ ap (λ (xs : List Slot). get_or xs k d) (sym beside)

not-beside : (slots run : List Slot) (index m : ℕ) → run ≡ take (length run) (drop index slots) → m ≤ length run
    → AreNotRevalued run m
    → AreNotRevalued (drop index slots) m
not-beside slots run index m beside few none k d less within =
    ap is_revalued (read-beside slots run index k d beside (omega (arith, less, few))) ∙ none k d less (omega (arith, less, few))

-- where none of those that stand beside an index was valued, all of them are passed
pub published-run : (slots items run : List Slot) (index : ℕ) → items ≡ published_until slots index
    → run ≡ take (length run) (drop index items)
    → position is_revalued run ≡ None → items ≡ published_until slots (index + length run)
published-run slots items run index is beside none =
    let own = run-beside slots items run index is beside in
    is ∙ sym (published-skip slots index (length run) (index + length run) refl
    (not-beside slots run index (length run) own (omega arith) (position-none run none)))

-- and else those up to the first that was, with that one
pub published-found : (slots items run : List Slot) (index ahead : ℕ) (s : Slot) → items ≡ published_until slots index
    → run ≡ take (length run) (drop index items) → index < length items → position is_revalued run ≡ Some ahead → s ≡ get_or run ahead s
    → set items (index + ahead) (as_published s) ≡ published_until slots (index + ahead + 1)
published-found slots items run index ahead s is beside inside found at =
    let own = run-beside slots items run index is beside in
    let first = position-some run ahead found in
    let skipped = published-skip slots index ahead (index + ahead) refl
    (not-beside slots run index ahead own (omega (arith, first.0)) first.1) in
    let size = ap length beside ∙ length-take (length run) (drop index items) in
    let within : index + ahead < length slots =
    omega (arith, first.0, size, length-drop index items, inside, ap length is, length-published slots index) in
    let there : get_or slots (index + ahead) s ≡ s =
    sym (get_or-drop index slots ahead s) ∙ read-beside slots run index ahead s own first.0 ∙ sym at in
    let read : slice_get slots (index + ahead) ≡ Some s = slice_get-get_or slots (index + ahead) s within ∙ ap Some there in
    let one : suc (index + ahead) ≡ index + ahead + 1 = omega arith in
    ap (λ (xs : List Slot). set xs (index + ahead) (as_published s)) (is ∙ sym skipped)
    ∙ published-next slots (index + ahead) s read ∙ ap (published_until slots) one

-- how far it goes
pub ahead-within : (items run : List Slot) (index ahead : ℕ) → run ≡ take (length run) (drop index items) → index < length items
    → position is_revalued run ≡ Some ahead → index + ahead + 1 ≤ length items
ahead-within items run index ahead beside inside found =
    let first = position-some run ahead found in
    let size = ap length beside ∙ length-take (length run) (drop index items) in
    omega (arith, first.0, size, length-drop index items, inside)

pub run-within : (items run : List Slot) (index : ℕ) → run ≡ take (length run) (drop index items) → index < length items
    → index + length run ≤ length items
run-within items run index beside inside =
    let size = ap length beside ∙ length-take (length run) (drop index items) in
    omega (arith, size, length-drop index items, inside)
