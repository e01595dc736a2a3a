-- A line of movements without one, and the changes of its side without that one's.
use Rattle.std.proofs.Common.{◌≡◌, Bool, true, false, cond, ◌&&◌, not, List, [], ◌∷◌, map, filter, Some, Contains, inl, inr, refl, sym, ap, ◌∙◌, subst, arith}
use Rattle.std.proofs.lemmas.Bool.{false≢true}
use Rattle.stock_nums.specs.declared.entry.Entry.{Entry}
use Rattle.stock_nums.specs.declared.entry.Key.{Key}
use Rattle.stock_nums.specs.declared.place.Place.{Place}
use Rattle.stock_model.specs.Enough.{entry_key, is_of_key, is_same_key}
use Rattle.stock_model.specs.InOrder.{IsBefore, IsInPostingOrder}
use Rattle.stock_model.proofs.Pairwise.{Pairwise, Precedes-Contains, Each, Each-weaker, Contains-cases, Pairwise-from_AllPairs}
use Rattle.stock_laws.proofs.Enough.{is_same_key-refl}
use Rattle.stock_laws.proofs.LiveEntries.{Each-filter, filter-passes}
use Rattle.key_order.specs.Changes.{leaving_change}
use Rattle.key_order.specs.KeyOrders.{is_change_at, without_change}
use Rattle.key_order.specs.declared.change.Change.{Change}
use Rattle.key_order.proofs.KeyOrdering.{and-second}
use Rattle.key_order.proofs.SamePlaces.{is_same_place-refl, is_same_place-before}
use Rattle.posting_order.specs.Timelines.{is_at, entry_at, without}
use Rattle.posting_order.proofs.KeyLines.{Each-kept, filter-swap, own-place, not-both}
use Rattle.repost_index.proofs.PutLines.{beside, AreBeside}

-- a movement of a line is found at its place
pub found-held : (line : List Entry) (e : Entry) → Pairwise IsBefore line → Contains line e → entry_at line e.place ≡ Some e
found-held [] e order held = absurd (omega (arith, held.1))
found-held (f ∷ fs) e order held =
    elim (Contains-cases f fs e held) [
      | inl same ↦
          subst (λ (g : Entry). entry_at (g ∷ fs) e.place ≡ Some e) (sym same)
          (ap (λ b. cond b (Some e) (entry_at fs e.place)) (is_same_place-refl e.place))
      | inr later ↦
          let other : is_at e.place f ≡ false = is_same_place-before f.place e.place (Precedes-Contains IsBefore f fs e order.0 later) in
          ap (λ b. cond b (Some f) (entry_at fs e.place)) other ∙ found-held fs e order.1 later
    ]

-- those of the changes of movements that pass a test, where another tells the same of the movements
filter-mapped : (p : Change → Bool) (q : Entry → Bool) (es : List Entry) → Each (λ e. p (leaving_change e) ≡ q e) es
    → filter p (map leaving_change es) ≡ map leaving_change (filter q es)
filter-mapped p q [] h = refl
filter-mapped p q (e ∷ es) h = by_cases (q e) h.0 (filter-mapped p q es h.1)
  where
    by_cases : (b : Bool) → p (leaving_change e) ≡ b → filter p (map leaving_change es) ≡ map leaving_change (filter q es)
        → filter p (map leaving_change (e ∷ es)) ≡ map leaving_change (cond b (e ∷ filter q es) (filter q es))
    by_cases true is rest = rw is (ap (λ cs. leaving_change e ∷ cs) rest)
    by_cases false is rest = rw is rest

-- one movement taken out, and its change if it is on the side
pub beside-without : (side : Entry → Bool) (line : List Entry) (e : Entry) (cs : List Change) → IsInPostingOrder line
    → Contains line e → AreBeside side line cs
    → AreBeside side (without line e.place) (cond (side e) (without_change cs (entry_key e) e.place) cs)
beside-without side line e cs ordered held are key = by_cases (side e) refl
  where
    left : Entry → Bool
    left f = not (is_at e.place f)

    kept : Change → Bool
    kept c = not (is_change_at (entry_key e) e.place c)

    own : Each (λ f. is_at e.place f ≡ true → f ≡ e) line
    own =
        let order = Pairwise-from_AllPairs IsBefore line ordered in
        own-place e.place line e order (found-held line e order held)

    alike : Each (λ f. kept (leaving_change f) ≡ left f) line
    alike =
        Each-weaker (λ f. is_at e.place f ≡ true → f ≡ e) (λ f. kept (leaving_change f) ≡ left f)
        (λ f one. not-both (is_same_key (entry_key f) (entry_key e)) (is_at e.place f)
        (λ at. subst (λ (g : Entry). is_same_key (entry_key g) (entry_key e) ≡ true) (sym (one at)) (is_same_key-refl (entry_key e)))) line own

    -- where it is on the other side, all of this one are left
    stays : side e ≡ false → (f : Entry) → (is_at e.place f ≡ true → f ≡ e) → beside side key f ≡ true → left f ≡ true
    stays off f one passes = by_place (is_at e.place f) one
      where
        by_place : (b : Bool) → (b ≡ true → f ≡ e) → not b ≡ true
        by_place true at =
            absurd (false≢true (sym off ∙ ap side (sym (at refl)) ∙ and-second (is_of_key key f) (side f) passes))
        by_place false at = refl

    by_cases : (b : Bool) → side e ≡ b → filter (λ c. is_same_key c.key key) (cond b (filter kept cs) cs)
        ≡ map leaving_change (filter (beside side key) (filter left line))
    by_cases true on =
        filter-swap (λ c. is_same_key c.key key) kept cs
        ∙ ap (filter kept) (are key)
        ∙ filter-mapped kept left (filter (beside side key) line) (Each-filter (λ f. kept (leaving_change f) ≡ left f) (beside side key) line alike)
        ∙ ap (map leaving_change) (filter-swap left (beside side key) line)
    by_cases false off =
        let all : filter left (filter (beside side key) line) ≡ filter (beside side key) line =
        filter-passes (λ f. left f ≡ true) left (λ f is. is) (filter (beside side key) line)
        (Each-kept (λ f. left f ≡ true) (beside side key) line
        (Each-weaker (λ f. is_at e.place f ≡ true → f ≡ e) (λ f. beside side key f ≡ true → left f ≡ true) (stays off) line own)) in
        are key ∙ ap (map leaving_change) (sym all ∙ filter-swap left (beside side key) line)
