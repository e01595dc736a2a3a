-- The movement at a place, in posting order: where it stands, and what is put in and taken out there.
use Rattle.std.proofs.Common.{◌≡◌, ℕ, zero, suc, ◌+◌, ◌<◌, ◌≤◌, Bool, true, false, cond, not, List, [], ◌∷◌, ◌++◌, length, get_or, slice_get, take, drop, filter, remove, insert, Option, Some, None, IfSome, inl, inr, refl, sym, ap, ◌∙◌, subst, arith}
use Rattle.std.specs.List.{find}
use Rattle.std.specs.List.Sorted.{IsPartitionedBy, IsPartitionPoint}
use Rattle.std.proofs.lemmas.Bool.{false≢true, cases_lt}
use Rattle.std.proofs.lemmas.Bool.Decides.{nat_tests}
use Rattle.std.proofs.lemmas.List.{get_or_default, take_all, length-take, length-drop, length-append}
use Rattle.std.proofs.lemmas.Option.{slice_get-get_or, slice_get_past, get_or_from_slice_get}
use Rattle.block_list.specs.Bounds.{HasSides}
use Rattle.block_list.proofs.Sides.{point-from_sides}
use Rattle.stock_nums.specs.Places.{is_before}
use Rattle.stock_nums.specs.declared.entry.Entry.{Entry}
use Rattle.stock_nums.specs.declared.moment.Moment.{Moment}
use Rattle.stock_nums.specs.declared.place.Place.{Place}
use Rattle.stock_nums.proofs.PlaceOrder.{is_before-transitive, is_before-total}
use Rattle.stock_nums.specs.Places.{is_later}
use Rattle.stock_model.specs.InOrder.{IsBefore, IsInPostingOrder}
use Rattle.stock_model.specs.PostingOrder.{put}
use Rattle.stock_model.proofs.Pairwise.{Precedes, Pairwise, Each, Pairwise-from_AllPairs, AllPairs-from_Pairwise}
use Rattle.key_order.specs.SamePlace.{is_same_place}
use Rattle.key_order.proofs.SamePlaces.{is_same_place-true, is_same_place-refl, is_same_place-before, is_same_place-after}
use Rattle.posting_order.specs.Timelines.{is_at, entry_at, without, comes_before, comes_after, is_until}
use Rattle.posting_order.proofs.Parting.{Fails, PassesBack, Pairwise-weaker, Each-from_Precedes, passes_from_not_fails, fails_from_not_passes, find-none, Fails-from_none, first_fails, first_passes, length-filter-parted}

-- a place that is another and does not come before comes after
pub is_before-other : (p q : Place) → is_same_place p q ≡ false → is_before p q ≡ false → is_before q p ≡ true
is_before-other p q other not_before =
    elim (is_before-total p q) [
      | inl h ↦ absurd (false≢true (sym not_before ∙ h))
      | inr h ↦ elim h [
        | inl k ↦ k
        | inr same ↦ absurd (false≢true (sym other ∙ subst (λ (r : Place). is_same_place p r ≡ true) same (is_same_place-refl p)))
      ]
    ]

-- what comes before a movement that passes a test passes it too
abbrev pub HoldsBack : (Entry → Bool) → Type 0
HoldsBack p = (a b : Entry) → IsBefore a b → PassesBack p a b

-- what comes before a place does so with all before it
pub comes_before-back : (place : Place) → HoldsBack (comes_before place)
comes_before-back place a b before passes = is_before-transitive a.place b.place place before passes

-- what does not come after a place does so with all before it
pub not_after-back : (place : Place) → HoldsBack (λ e. not (comes_after place e))
not_after-back place a b before passes =
    let never : is_before place a.place ≡ true → ⊥ = λ after.
    let later : is_before place b.place ≡ true = is_before-transitive place a.place b.place after before in
    let fails : not (is_before place b.place) ≡ false = ap not later in
    false≢true (sym fails ∙ passes) in
    ap not (fails_from_not_passes (is_before place) a.place never)

-- what comes after a later movement is later
is_later-IsBefore : (a b : Entry) (moment : Moment) → IsBefore a b → is_later a.place.moment moment ≡ true → is_later b.place.moment moment ≡ true
is_later-IsBefore a b moment before later = grind (arith, nat_tests)

-- what is not after a moment does so with all before it
pub until-back : (moment : Moment) → HoldsBack (is_until moment)
until-back moment a b before passes =
    let never : is_later a.place.moment moment ≡ true → ⊥ = λ later.
    let fails : not (is_later b.place.moment moment) ≡ false = ap not (is_later-IsBefore a b moment before later) in
    false≢true (sym fails ∙ passes) in
    ap not (fails_from_not_passes (λ (m : Moment). is_later m moment) a.place.moment never)

-- such a test parts movements in posting order
pub IsPartitionedBy-HoldsBack : (p : Entry → Bool) → HoldsBack p → (es : List Entry) → IsInPostingOrder es → IsPartitionedBy p es
IsPartitionedBy-HoldsBack p back es order i j d le within passes =
    elim (cases_lt i j) [
      | inl less ↦ back (get_or es i d) (get_or es j d) (order i j d less within) passes
      | inr more ↦ let same : j ≡ i = omega arith in subst (λ k. p (get_or es k d) ≡ true) same passes
    ]

-- the point at which it parts them is how many pass
pub length-filter-point : (p : Entry → Bool) (es : List Entry) (i : ℕ) → i ≤ length es → IsPartitionPoint (λ e. p e ≡ true) (λ e. p e ≡ false) es i → i ≡ length (filter p es)
length-filter-point p es i within point = length-filter-parted p es i within point.0 point.1

-- where such a test is passed so far in posting order
pub Pairwise-back : (p : Entry → Bool) → HoldsBack p → (es : List Entry) → Pairwise IsBefore es → Pairwise (PassesBack p) es
Pairwise-back p back es order = Pairwise-weaker IsBefore (PassesBack p) back es order

-- a movement that comes before the place is not at it
not_at-before : (place : Place) (e : Entry) → comes_before place e ≡ true → is_at place e ≡ false
not_at-before place e before = is_same_place-before e.place place before

-- none after one at the place is at it
pub not_at-later : (place : Place) (e f : Entry) → is_at place e ≡ true → IsBefore e f → is_at place f ≡ false
not_at-later place e f at before =
    is_same_place-after f.place place (subst (λ (p : Place). is_before p f.place ≡ true) (is_same_place-true e.place place at) before)

-- none after one that comes after the place is at the place
not_at-beyond : (place : Place) (e f : Entry) → is_before place e.place ≡ true → IsBefore e f → is_at place f ≡ false
not_at-beyond place e f after before =
    is_same_place-after f.place place (is_before-transitive place e.place f.place after before)

-- those that are not at a place are kept without it
pub kept_apart : (place : Place) (es : List Entry) → Each (Fails (is_at place)) es → without es place ≡ es
kept_apart place [] h = refl
kept_apart place (e ∷ es) h = rw h.0 (ap (λ fs. e ∷ fs) (kept_apart place es h.1))

-- the movement that stands after all those before the place, where it is at the place
pub entry_at-present : (es : List Entry) (place : Place) (n : ℕ) (d : Entry) → Pairwise IsBefore es → n ≡ length (filter (comes_before place) es) → n < length es → is_at place (get_or es n d) ≡ true
    → (entry_at es place ≡ slice_get es n) × (without es place ≡ remove es n)
entry_at-present [] place n d order is within at = absurd (omega (arith, within))
entry_at-present (e ∷ es) place zero d order is within at =
    let others = kept_apart place es (Each-from_Precedes IsBefore (Fails (is_at place)) e (λ f before. not_at-later place e f at before) es order.0) in
    (rw at refl, rw at others)
entry_at-present (e ∷ es) place (suc n) d order is within at =
    let first = first_passes (comes_before place) e es n (Pairwise-back (comes_before place) (comes_before-back place) (e ∷ es) order) is in
    let other = not_at-before place e first.0 in
    let rest = entry_at-present es place n d order.1 first.1 (omega (arith, within)) at in
    (rw other rest.0, rw other (ap (λ fs. e ∷ fs) rest.1))

-- where it isn't, none is
pub entry_at-absent : (es : List Entry) (place : Place) (n : ℕ) → Pairwise IsBefore es → n ≡ length (filter (comes_before place) es) → (n < length es → (d : Entry) → is_at place (get_or es n d) ≡ false)
    → (entry_at es place ≡ None) × (without es place ≡ es)
entry_at-absent [] place n order is apart = (refl, refl)
entry_at-absent (e ∷ es) place zero order is apart =
    let other : is_at place e ≡ false = apart (omega arith) e in
    let after = is_before-other e.place place other (first_fails (comes_before place) e es is) in
    let all : Each (Fails (is_at place)) (e ∷ es) = (other, Each-from_Precedes IsBefore (Fails (is_at place)) e (λ f before. not_at-beyond place e f after before) es order.0) in
    (find-none (is_at place) (e ∷ es) all, kept_apart place (e ∷ es) all)
entry_at-absent (e ∷ es) place (suc n) order is apart =
    let first = first_passes (comes_before place) e es n (Pairwise-back (comes_before place) (comes_before-back place) (e ∷ es) order) is in
    let other = not_at-before place e first.0 in
    let rest = entry_at-absent es place n order.1 first.1 (λ within d. apart (omega (arith, within)) d) in
    (rw other rest.0, rw other (ap (λ fs. e ∷ fs) rest.1))

-- a movement is put after all those that do not come after it
pub put-at : (es : List Entry) (e : Entry) (n : ℕ) → Pairwise IsBefore es → n ≡ length (filter (λ f. not (comes_after e.place f)) es) → put es e ≡ insert es n e
put-at [] e zero order is = refl
put-at [] e (suc n) order is = absurd (omega (arith, is))
put-at (f ∷ fs) e zero order is =
    let after : is_before e.place f.place ≡ true = passes_from_not_fails (is_before e.place) f.place
    (λ not_after. false≢true (sym (first_fails (λ g. not (comes_after e.place g)) f fs is) ∙ ap not not_after)) in
    rw after refl
put-at (f ∷ fs) e (suc n) order is =
    let first = first_passes (λ g. not (comes_after e.place g)) f fs n (Pairwise-back (λ g. not (comes_after e.place g)) (not_after-back e.place) (f ∷ fs) order) is in
    let not_after : is_before e.place f.place ≡ false = fails_from_not_passes (is_before e.place) f.place
    (λ after. false≢true (sym (ap not after) ∙ first.0)) in
    rw not_after (ap (λ gs. f ∷ gs) (put-at fs e n order.1 first.1))

-- a movement that comes before the first of those in order comes before all
Precedes-along : (e f : Entry) (fs : List Entry) → IsBefore e f → Precedes IsBefore f fs → Precedes IsBefore e fs
Precedes-along e f [] h k = tt
Precedes-along e f (g ∷ gs) h k =
    (is_before-transitive e.place f.place g.place h k.0, Precedes-along e f gs h k.1)

-- what is related to each of a line and to one more is related to each of the line with that one
pub put-Precedes : (R : Entry → Entry → Type 0) (x : Entry) (line : List Entry) (e : Entry) → Precedes R x line → R x e → Precedes R x (put line e)
put-Precedes R x [] e h r = (r, tt)
put-Precedes R x (f ∷ fs) e h r =
    elim (is_before e.place f.place) as (λ b. Precedes R x (cond b (e ∷ f ∷ fs) (f ∷ put fs e))) [
      | true ↦ (r, h)
      | false ↦ (h.0, put-Precedes R x fs e h.1 r)
    ]

-- a movement put among those in order, none of them at its place, leaves them in order
put-Pairwise : (line : List Entry) (e : Entry) → Pairwise IsBefore line → Each (Fails (is_at e.place)) line → Pairwise IsBefore (put line e)
put-Pairwise [] e h d = (tt, tt)
put-Pairwise (f ∷ fs) e h d = by_cases (is_before e.place f.place) refl (put-Pairwise fs e h.1 d.1)
  where
    by_cases : (b : Bool) → is_before e.place f.place ≡ b → Pairwise IsBefore (put fs e) → Pairwise IsBefore (cond b (e ∷ f ∷ fs) (f ∷ put fs e))
    by_cases true is rest = ((is, Precedes-along e f fs is h.0), h)
    by_cases false is rest =
        let before : IsBefore f e = passes_from_not_fails (is_before f.place) e.place (λ not_before. false≢true (sym is ∙ is_before-other f.place e.place d.0 not_before)) in
        (put-Precedes IsBefore f fs e h.0 before, rest)

-- the same of a line in posting order
pub IsInPostingOrder-put : (line : List Entry) (e : Entry) → IsInPostingOrder line → entry_at line e.place ≡ None → IsInPostingOrder (put line e)
IsInPostingOrder-put line e order none =
    AllPairs-from_Pairwise IsBefore (put line e)
    (put-Pairwise line e (Pairwise-from_AllPairs IsBefore line order) (Fails-from_none (is_at e.place) line none))

-- what is found at a place stands there
pub entry_at-place : (es : List Entry) (place : Place) (e : Entry) → entry_at es place ≡ Some e → e.place ≡ place
entry_at-place [] place e found = cc
entry_at-place (f ∷ fs) place e found = by_cases (is_at place f) refl (entry_at-place fs place e) found
  where
    by_cases : (b : Bool) → is_at place f ≡ b → (find (is_at place) fs ≡ Some e → e.place ≡ place) → cond b (Some f) (find (is_at place) fs) ≡ Some e → e.place ≡ place
    by_cases true is rest h = let same : f ≡ e = cc in ap (λ (g : Entry). g.place) (sym same) ∙ is_same_place-true f.place place is
    by_cases false is rest h = rest h

-- what is told of a place stands there
pub entry_at-told : (es : List Entry) (place : Place) (o : Option Entry) → o ≡ entry_at es place → IfSome o (λ e. e.place ≡ place)
entry_at-told es place None is = tt
entry_at-told es place (Some e) is = entry_at-place es place e (sym is)

-- what is read at an index is in the list
read-within : (es : List Entry) (n : ℕ) (e : Entry) → slice_get es n ≡ Some e → (n < length es) × (e ≡ get_or es n e)
read-within es n e read =
    elim (cases_lt n (length es)) [
      | inl within ↦ (within, sym (get_or_from_slice_get es n e e read))
      | inr past ↦ let none : Some e ≡ None = sym read ∙ slice_get_past es n past in cc
    ]

-- the movement that was read at the index, where it is at the place
pub entry_at-read : (es : List Entry) (place : Place) (n : ℕ) (e : Entry) → IsInPostingOrder es → n ≡ length (filter (comes_before place) es) → slice_get es n ≡ Some e → is_at place e ≡ true
    → (n < length es) × (entry_at es place ≡ slice_get es n) × (without es place ≡ remove es n)
entry_at-read es place n e order is read at =
    let within = read-within es n e read in
    let there = entry_at-present es place n e (Pairwise-from_AllPairs IsBefore es order) is within.0 (subst (λ (f : Entry). is_at place f ≡ true) within.1 at) in
    (within.0, there.0, there.1)

-- the movement that was read is not at the place
pub entry_at-other : (es : List Entry) (place : Place) (n : ℕ) (e : Entry) → IsInPostingOrder es → n ≡ length (filter (comes_before place) es) → slice_get es n ≡ Some e → is_at place e ≡ false
    → (entry_at es place ≡ None) × (without es place ≡ es)
entry_at-other es place n e order is read other =
    entry_at-absent es place n (Pairwise-from_AllPairs IsBefore es order) is
    (λ within d. subst (λ (f : Entry). is_at place f ≡ false) ((read-within es n e read).1 ∙ get_or_default es n e d within) other)

-- none was left to read
pub entry_at-end : (es : List Entry) (place : Place) (n : ℕ) → IsInPostingOrder es → n ≡ length (filter (comes_before place) es) → slice_get es n ≡ None
    → (entry_at es place ≡ None) × (without es place ≡ es)
entry_at-end es place n order is past =
    entry_at-absent es place n (Pairwise-from_AllPairs IsBefore es order) is
    (λ within d. let some : Some (get_or es n d) ≡ None = sym (slice_get-get_or es n d within) ∙ past in cc)

-- what a movement put in before a bound makes
pub put-sides : (es new : List Entry) (e : Entry) → IsInPostingOrder es → (at : ℕ) × HasSides (λ f. not (comes_after e.place f)) es at × (new ≡ insert es at e) → new ≡ put es e
put-sides es new e order (at, sides, made) =
    let test : Entry → Bool = λ f. not (comes_after e.place f) in
    let parted = IsPartitionedBy-HoldsBack test (not_after-back e.place) es order in
    let count = length-filter-point test es at sides.within (point-from_sides test es at parted sides) in
    made ∙ sym (put-at es e at (Pairwise-from_AllPairs IsBefore es order) count)

-- the first ones and some more
take-more : (n m : ℕ) (es : List Entry) → take n es ++ take m (drop n es) ≡ take (n + m) es
take-more zero m es = let all : m ≡ 0 + m = omega arith in ap (λ k. take k es) all
take-more (suc n) m [] = take_all m [] (omega arith) ∙ sym (take_all (suc n + m) [] (omega arith))
take-more (suc n) m (e ∷ es) =
    let on : suc (n + m) ≡ suc n + m = omega arith in
    ap (λ fs. e ∷ fs) (take-more n m es) ∙ ap (λ k. take k (e ∷ es)) on

-- the first ones with those that stand beside them are the first ones
pub copied-more : (es all run new : List Entry) → all ≡ take (length all) es → length all < length es → run ≡ take (length run) (drop (length all) es) → new ≡ all ++ run
    → (new ≡ take (length new) es) × (length new ≤ length es)
copied-more es all run new copied left beside made =
    let count : length new ≡ length all + length run = ap length made ∙ length-append all run in
    let some : length run ≤ length (drop (length all) es) = omega (arith, ap length beside, length-take (length run) (drop (length all) es)) in
    let whole : all ++ run ≡ take (length all + length run) es = ap (λ xs. xs ++ run) copied ∙ ap (λ xs. take (length all) es ++ xs) beside ∙ take-more (length all) (length run) es in
    (made ∙ whole ∙ ap (λ k. take k es) (sym count), omega (arith, count, some, length-drop (length all) es, left))
