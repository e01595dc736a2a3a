-- What goes is in the line: first a receipt and an issue, and then the receipt alone.
use Rattle.std.proofs.Common.{◌≡◌, false, not, Bool, cond, List, [], ◌∷◌, All, Contains, refl, sym, ap, ◌∙◌, subst}
use Rattle.stock_nums.specs.Places.{is_before}
use Rattle.stock_nums.specs.declared.entry.Entry.{Entry}
use Rattle.stock_model.proofs.Pairwise.{Contains-first, Contains-later}
use Rattle.key_order.specs.SamePlace.{is_same_place}
use Rattle.key_order.proofs.SamePlaces.{is_same_place-refl}
use Rattle.posting_order.proofs.Parting.{All-from_Each}
use Rattle.quantity_check.specs.ChangedLines.{changed_line}
use Rattle.list_tests.proofs.shortages.are_told_where_movements_go.Goals as goal

-- one that goes is in the line, where it stands first
held-first : (line gone : List Entry) (a : Entry) (rest : List Entry) → line ≡ a ∷ rest → gone ≡ a ∷ [] → All (Contains line) gone
held-first line gone a rest is goes =
    subst (λ (l : List Entry). All (Contains l) gone) (sym is)
    (subst (All (Contains (a ∷ rest))) (sym goes) (All-from_Each (Contains (a ∷ rest)) (a ∷ []) (Contains-first a rest, tt)))

-- and where it stands second
held-second : (line gone : List Entry) (a b : Entry) (rest : List Entry) → line ≡ a ∷ b ∷ rest → gone ≡ b ∷ [] → All (Contains line) gone
held-second line gone a b rest is goes =
    subst (λ (l : List Entry). All (Contains l) gone) (sym is)
    (subst (All (Contains (a ∷ b ∷ rest))) (sym goes)
    (All-from_Each (Contains (a ∷ b ∷ rest)) (b ∷ []) (Contains-later a (b ∷ rest) b (Contains-first b rest), tt)))

-- two that come into an empty line stand in it in their order
both-line : (line old adds : List Entry) (a b : Entry) → line ≡ changed_line old adds [] → old ≡ [] → adds ≡ a ∷ b ∷ [] → is_before b.place a.place ≡ false
    → line ≡ a ∷ b ∷ []
both-line line old adds a b is was come order =
    is ∙ ap (λ (l : List Entry). changed_line l adds []) was ∙ ap (λ (l : List Entry). changed_line [] l []) come
    ∙ ap (λ (v : Bool). cond v (b ∷ a ∷ []) (a ∷ b ∷ [])) order

-- the second one goes
first-line : (line old gone : List Entry) (a b : Entry) → line ≡ changed_line old [] gone → old ≡ a ∷ b ∷ [] → gone ≡ b ∷ [] → is_same_place a.place b.place ≡ false
    → line ≡ a ∷ []
first-line line old gone a b is was goes apart =
    is ∙ ap (λ (l : List Entry). changed_line l [] gone) was ∙ ap (λ (l : List Entry). changed_line (a ∷ b ∷ []) [] l) goes
    ∙ ap (λ (v : Bool). cond (not v) (a ∷ cond (not (is_same_place b.place b.place)) (b ∷ []) []) (cond (not (is_same_place b.place b.place)) (b ∷ []) [])) apart
    ∙ ap (λ (v : Bool). a ∷ cond (not v) (b ∷ []) []) (is_same_place-refl b.place)

pub try_change-refused-requires-clause-held : goal.try_change-refused-requires-clause-held
try_change-refused-requires-clause-held g c =
    let line = both-line _ _ _ _ _ c.change.ensures.changed (c.reserve.ensures.unchanged ∙ c.new-running.ensures) c.as_slice-2.ensures refl in
    held-first _ _ _ _ line c.as_slice-3.ensures

pub try_change-without_issue-requires-clause-held : goal.try_change-without_issue-requires-clause-held
try_change-without_issue-requires-clause-held g c =
    let line = both-line _ _ _ _ _ c.change.ensures.changed (c.reserve.ensures.unchanged ∙ c.new-running.ensures) c.as_slice-2.ensures refl in
    held-second _ _ _ _ _ line c.as_slice-4.ensures

pub try_change-empty-requires-clause-held : goal.try_change-empty-requires-clause-held
try_change-empty-requires-clause-held g c =
    let line = both-line _ _ _ _ _ c.change.ensures.changed (c.reserve.ensures.unchanged ∙ c.new-running.ensures) c.as_slice-2.ensures refl in
    let left = first-line _ _ _ _ _ c.change-2.ensures.changed line c.as_slice-5.ensures refl in
    held-first _ _ _ _ left c.as_slice-6.ensures
