-- A movement put into a line, and its change put among those of its side.
use Rattle.std.proofs.Common.{◌≡◌, ◌≤◌, Bool, true, false, cond, ◌&&◌, not, List, [], ◌∷◌, length, map, filter, None, All, refl, sym, ap, ◌∙◌, subst, arith}
use Rattle.std.proofs.lemmas.List.{length-map}
use Rattle.std.proofs.lemmas.List.Sums.{length-filter, count_by-le-length}
use Rattle.stock_nums.specs.Places.{is_before}
use Rattle.stock_nums.specs.declared.entry.Entry.{Entry}
use Rattle.stock_nums.specs.declared.entry.Key.{Key}
use Rattle.stock_nums.specs.declared.place.Place.{Place}
use Rattle.stock_nums.proofs.PlaceOrder.{is_before-transitive}
use Rattle.stock_model.specs.Enough.{is_of_key, is_same_key}
use Rattle.stock_model.specs.InOrder.{IsBefore, IsInPostingOrder}
use Rattle.stock_model.specs.PostingOrder.{put}
use Rattle.stock_model.proofs.Pairwise.{Pairwise, Each, Each-weaker, Pairwise-from_AllPairs}
use Rattle.stock_laws.proofs.Enough.{is_same_key-refl}
use Rattle.stock_laws.proofs.TestedSums.{Each-from_All}
use Rattle.key_order.specs.Changes.{of_key, leaving_change}
use Rattle.key_order.specs.KeyOrders.{AreInKeyOrder, HasNoneAt, put_change}
use Rattle.key_order.specs.declared.change.Change.{Change}
use Rattle.key_order.proofs.KeyOrdering.{Before, and-both, and-fails_first, and-fails_second}
use Rattle.key_order.proofs.SamePlaces.{is_same_place-true}
use Rattle.posting_order.specs.Timelines.{is_at, entry_at}
use Rattle.posting_order.proofs.KeyLines.{Each-kept, Each-passing, put_place, of_key-put_change, of_key-put_change-other, same-length}
use Rattle.posting_order.proofs.Parting.{Fails, Each-from_Precedes, All-from_Each, fails_from_not_passes, find-none}

-- a movement is put before all that come after it
put-front : (es : List Entry) (e : Entry) → Each (λ f. is_before e.place f.place ≡ true) es → put es e ≡ e ∷ es
put-front [] e after = refl
put-front (f ∷ fs) e after = rw after.0 refl

-- a movement that passes a test, put among those that pass it
filter-put : (p : Entry → Bool) (line : List Entry) (e : Entry) → Pairwise IsBefore line → p e ≡ true
    → filter p (put line e) ≡ put (filter p line) e
filter-put p [] e ordered own = rw own refl
filter-put p (f ∷ fs) e ordered own = by_cases (is_before e.place f.place) refl (filter-put p fs e ordered.1 own)
  where
    by_test : (b : Bool) → is_before e.place f.place ≡ false → filter p (put fs e) ≡ put (filter p fs) e
        → cond b (f ∷ filter p (put fs e)) (filter p (put fs e)) ≡ put (cond b (f ∷ filter p fs) (filter p fs)) e
    by_test true after rest = rw after (ap (λ gs. f ∷ gs) rest)
    by_test false after rest = rest

    by_cases : (b : Bool) → is_before e.place f.place ≡ b → filter p (put fs e) ≡ put (filter p fs) e
        → filter p (cond b (e ∷ f ∷ fs) (f ∷ put fs e)) ≡ put (filter p (f ∷ fs)) e
    by_cases true before rest =
        let later : Each (λ g. p g ≡ true → is_before e.place g.place ≡ true) fs =
        Each-from_Precedes IsBefore (λ g. p g ≡ true → is_before e.place g.place ≡ true) f
        (λ g follows passes. is_before-transitive e.place f.place g.place before follows) fs ordered.0 in
        let front = put-front (filter p (f ∷ fs)) e
        (Each-kept (λ g. is_before e.place g.place ≡ true) p (f ∷ fs) (λ passes. before, later)) in
        rw own (sym front)
    by_cases false after rest = by_test (p f) after rest

-- one that fails it leaves them as they are
filter-put-other : (p : Entry → Bool) (line : List Entry) (e : Entry) → p e ≡ false → filter p (put line e) ≡ filter p line
filter-put-other p [] e fails = rw fails refl
filter-put-other p (f ∷ fs) e fails = by_cases (is_before e.place f.place) (filter-put-other p fs e fails)
  where
    by_cases : (b : Bool) → filter p (put fs e) ≡ filter p fs → filter p (cond b (e ∷ f ∷ fs) (f ∷ put fs e)) ≡ filter p (f ∷ fs)
    by_cases true rest = rw fails refl
    by_cases false rest =
        elim (p f) as (λ b. cond b (f ∷ filter p (put fs e)) (filter p (put fs e)) ≡ cond b (f ∷ filter p fs) (filter p fs)) [
          | true ↦ ap (λ gs. f ∷ gs) rest
          | false ↦ rest
        ]

-- the change of a movement goes where the movement goes
map-put : (es : List Entry) (e : Entry) → map leaving_change (put es e) ≡ put_place (map leaving_change es) (leaving_change e)
map-put [] e = refl
map-put (f ∷ fs) e =
    elim (is_before e.place f.place) as (λ b. map leaving_change (cond b (e ∷ f ∷ fs) (f ∷ put fs e))
    ≡ cond b (leaving_change e ∷ leaving_change f ∷ map leaving_change fs)
    (leaving_change f ∷ put_place (map leaving_change fs) (leaving_change e))) [
      | true ↦ refl
      | false ↦ ap (λ cs. leaving_change f ∷ cs) (map-put fs e)
    ]

-- the movement is of the key, and on the side
abbrev pub beside : (Entry → Bool) → Key → Entry → Bool
beside side key e = is_of_key key e && side e

-- of each key, the changes are those of the movements on the side
abbrev pub AreBeside : (Entry → Bool) → List Entry → List Change → Type 0
AreBeside side line cs = (key : Key) → of_key key cs ≡ map leaving_change (filter (beside side key) line)

-- a movement put in, and its change if it is on the side
pub beside-put : (side : Entry → Bool) (line : List Entry) (e : Entry) (cs : List Change) → AreInKeyOrder cs
    → IsInPostingOrder line → AreBeside side line cs
    → AreBeside side (put line e) (cond (side e) (put_change cs (leaving_change e)) cs)
beside-put side line e cs keys ordered are key = by_cases (side e) refl (is_of_key key e) refl
  where
    test : Entry → Bool
    test = beside side key

    by_cases : (b : Bool) → side e ≡ b → (k : Bool) → is_of_key key e ≡ k
        → of_key key (cond b (put_change cs (leaving_change e)) cs) ≡ map leaving_change (filter (beside side key) (put line e))
    by_cases true on true own =
        of_key-put_change key cs (leaving_change e) (Pairwise-from_AllPairs Before cs keys) own
        ∙ ap (λ (ds : List Change). put_place ds (leaving_change e)) (are key)
        ∙ sym (map-put (filter (beside side key) line) e)
        ∙ ap (map leaving_change) (sym (filter-put (beside side key) line e (Pairwise-from_AllPairs IsBefore line ordered)
        (and-both (is_of_key key e) (side e) own on)))
    by_cases true on false other =
        of_key-put_change-other key cs (leaving_change e) other ∙ are key
        ∙ ap (map leaving_change) (sym (filter-put-other (beside side key) line e
        (and-fails_first (is_of_key key e) (side e) other)))
    by_cases false off k own =
        are key
        ∙ ap (map leaving_change) (sym (filter-put-other (beside side key) line e
        (and-fails_second (is_of_key key e) (side e) off)))

-- the changes of a key among those of a side
of_key-beside : (side : Entry → Bool) (key : Key) (line : List Entry)
    → of_key key (map leaving_change (filter side line)) ≡ map leaving_change (filter (beside side key) line)
of_key-beside side key [] = refl
of_key-beside side key (f ∷ fs) = by_cases (side f) (is_of_key key f) refl (of_key-beside side key fs)
  where
    by_cases : (b k : Bool) → is_of_key key f ≡ k
        → of_key key (map leaving_change (filter side fs)) ≡ map leaving_change (filter (beside side key) fs)
        → of_key key (map leaving_change (cond b (f ∷ filter side fs) (filter side fs)))
        ≡ map leaving_change (cond (k && b) (f ∷ filter (beside side key) fs) (filter (beside side key) fs))
    by_cases true true own rest = rw own (ap (λ cs. leaving_change f ∷ cs) rest)
    by_cases true false own rest = rw own rest
    by_cases false true own rest = rest
    by_cases false false own rest = rest

-- there are no more of them than movements
pub beside-length : (side : Entry → Bool) (line : List Entry) (cs : List Change) → AreBeside side line cs
    → length cs ≤ length line
beside-length side line cs are =
    let same : length cs ≡ length (map leaving_change (filter side line)) =
    same-length cs (map leaving_change (filter side line)) (λ key. are key ∙ sym (of_key-beside side key line)) in
    omega (arith, same, length-map (filter side line) leaving_change, length-filter side line, count_by-le-length side line)

-- where no movement stands at a place no change does
changes-apart : (place : Place) (es : List Entry) → Each (λ f. f.place ≡ place → ⊥) es
    → Each (λ c. c.place ≡ place → ⊥) (map leaving_change es)
changes-apart place [] apart = tt
changes-apart place (f ∷ fs) apart = (apart.0, changes-apart place fs apart.1)

pub beside-apart : (side : Entry → Bool) (line : List Entry) (cs : List Change) (key : Key) (place : Place)
    → AreBeside side line cs → All (λ f. f.place ≡ place → ⊥) line → HasNoneAt cs key place
beside-apart side line cs key place are apart =
    let others = Each-kept (λ f. f.place ≡ place → ⊥) (beside side key) line
    (Each-weaker (λ f. f.place ≡ place → ⊥) (λ f. beside side key f ≡ true → f.place ≡ place → ⊥) (λ f other passes. other) line
    (Each-from_All (λ f. f.place ≡ place → ⊥) line apart)) in
    let own : Each (λ c. c.place ≡ place → ⊥) (of_key key cs) =
    subst (λ (ds : List Change). Each (λ c. c.place ≡ place → ⊥) ds) (sym (are key))
    (changes-apart place (filter (beside side key) line) others) in
    All-from_Each (λ c. c.key ≡ key → c.place ≡ place → ⊥) cs
    (Each-weaker (λ c. is_same_key c.key key ≡ true → c.place ≡ place → ⊥) (λ c. c.key ≡ key → c.place ≡ place → ⊥)
    (λ c other same. other (subst (λ (k : Key). is_same_key k key ≡ true) (sym same) (is_same_key-refl key))) cs
    (Each-passing (λ c. c.place ≡ place → ⊥) (λ c. is_same_key c.key key) cs own))

-- where no movement stands at a place none is found there
pub none-at : (line : List Entry) (place : Place) → All (λ f. f.place ≡ place → ⊥) line → entry_at line place ≡ None
none-at line place apart =
    find-none (is_at place) line
    (Each-weaker (λ f. f.place ≡ place → ⊥) (Fails (is_at place))
    (λ f other. fails_from_not_passes (is_at place) f (λ is. other (is_same_place-true f.place place is))) line
    (Each-from_All (λ f. f.place ≡ place → ⊥) line apart))

-- what holds of two lists holds of the one of a side
pub on-either : (P : List Change → Type 0) (b : Bool) (xs ys : List Change) → P xs → P ys → P (cond b xs ys)
on-either P true xs ys h k = h
on-either P false xs ys h k = k

-- the other side
pub cond-not : (b : Bool) (xs ys : List Change) → cond (not b) xs ys ≡ cond b ys xs
cond-not true xs ys = refl
cond-not false xs ys = refl
