-- The next and the previous place of an item in a warehouse, among movements in posting order.
use Rattle.std.proofs.Common.{◌≡◌, ◌-◌, ◌<◌, Bool, true, false, cond, ◌&&◌, List, [], ◌∷◌, length, reverse, Option, Some, None, IfSome, IfNone, refl, sym, ◌∙◌, subst, arith}
use Rattle.std.specs.List.{find, Contains}
use Rattle.std.specs.Option.{option_map}
use Rattle.std.proofs.lemmas.Bool.{false≢true}
use Rattle.std.proofs.lemmas.List.{get_or-reverse, length-reverse}
use Rattle.std.proofs.lemmas.List.Sorted.{All-permutation, IsPermutation-sym, IsPermutation-reverse, Contains-permutation}
use Rattle.stock_nums.specs.Places.{is_before}
use Rattle.stock_nums.specs.declared.entry.Entry.{Entry}
use Rattle.stock_nums.specs.declared.entry.Key.{Key}
use Rattle.stock_nums.specs.declared.place.Place.{Place}
use Rattle.stock_nums.proofs.PlaceOrder.{is_before-irreflexive, is_before-asymmetric}
use Rattle.stock_model.specs.Enough.{entry_key, is_of_key, is_same_key}
use Rattle.stock_model.specs.InOrder.{IsBefore, IsInPostingOrder}
use Rattle.stock_laws.proofs.Enough.{is_same_key-true, is_same_key-refl}
use Rattle.stock_model.proofs.Pairwise.{Pairwise, Each, Each-weaker, Pairwise-from_AllPairs, Contains-first, Contains-later}
use Rattle.posting_order.specs.Timelines.{comes_before, comes_after, entry_place, next_place, previous_place, IsNextPlace, IsPreviousPlace, HasNoneAfter, HasNoneBefore}
use Rattle.posting_order.proofs.Parting.{Fails, Each-from_Precedes, All-from_Each, Fails-from_none}

-- the movement is of the key and comes after the place
abbrev follows : Key → Place → Entry → Bool
follows key place e = is_of_key key e && comes_after place e

-- the movement is of the key and comes before the place
abbrev precedes : Key → Place → Entry → Bool
precedes key place e = is_of_key key e && comes_before place e

-- two tests passed at once, where the second is known
both-true : (a b : Bool) → b ≡ true → (a && b) ≡ a
both-true true b h = h
both-true false b h = refl

-- where both are passed, so is the first
both-first : (a b : Bool) → (a && b) ≡ true → a ≡ true
both-first true b h = refl
both-first false b h = h

-- where both are passed, so is the second
both-second : (a b : Bool) → (a && b) ≡ true → b ≡ true
both-second true b h = h
both-second false b h = absurd (false≢true h)

-- what is found first passes, is one of the list, and has to each that passes what each has to itself and to later ones
find-first : {X : Type 0} (R S : X → X → Type 0) (q : X → Bool) → ((x : X) → S x x) → ((x y : X) → R x y → S x y) → (xs : List X) (e : X) → Pairwise R xs → find q xs ≡ Some e
    → Contains xs e × (q e ≡ true) × Each (λ x. q x ≡ true → S e x) xs
find-first R S q itself later [] e order found = cc
find-first {X = X} R S q itself later (x ∷ xs) e order found = by_cases (q x) refl (find-first R S q itself later xs e order.1) found
  where
    by_cases : (b : Bool) → q x ≡ b → (find q xs ≡ Some e → Contains xs e × (q e ≡ true) × Each (λ y. q y ≡ true → S e y) xs)
        → cond b (Some x) (find q xs) ≡ Some e → Contains (x ∷ xs) e × (q e ≡ true) × Each (λ y. q y ≡ true → S e y) (x ∷ xs)
    by_cases true is more h =
        let same : x ≡ e = cc in
        subst (λ (z : X). Contains (x ∷ xs) z × (q z ≡ true) × Each (λ y. q y ≡ true → S z y) (x ∷ xs)) same
        (Contains-first x xs, is, (λ passes. itself x, Each-from_Precedes R (λ y. q y ≡ true → S x y) x (λ y r passes. later x y r) xs order.0))
    by_cases false is more h =
        let rest = more h in
        (Contains-later x xs e rest.0, rest.1, (λ passes. absurd (false≢true (sym is ∙ passes)), rest.2))

-- a movement is of a key where the test says so
is_of_key-from : (key : Key) (e : Entry) → entry_key e ≡ key → is_of_key key e ≡ true
is_of_key-from key e same = subst (λ (k : Key). is_same_key (entry_key e) k ≡ true) same (is_same_key-refl (entry_key e))

-- both tests from what they tell
follows-from : (key : Key) (place : Place) (e : Entry) → entry_key e ≡ key → is_before place e.place ≡ true → follows key place e ≡ true
follows-from key place e same after = both-true (is_of_key key e) (comes_after place e) after ∙ is_of_key-from key e same

-- the other test, likewise
precedes-from : (key : Key) (place : Place) (e : Entry) → entry_key e ≡ key → is_before e.place place ≡ true → precedes key place e ≡ true
precedes-from key place e same before = both-true (is_of_key key e) (comes_before place e) before ∙ is_of_key-from key e same

-- the second movement does not come before the first
abbrev IsNotBefore : Entry → Entry → Type 0
IsNotBefore e f = is_before f.place e.place ≡ false

-- the second movement does not come after the first
abbrev IsNotAfter : Entry → Entry → Type 0
IsNotAfter e f = is_before e.place f.place ≡ false

-- the first movement comes after the second
abbrev IsAfter : Entry → Entry → Type 0
IsAfter a b = IsBefore b a

-- movements in posting order, reversed, go back
reverse-Pairwise : (es : List Entry) → IsInPostingOrder es → Pairwise IsAfter (reverse es)
reverse-Pairwise es order =
    Pairwise-from_AllPairs IsAfter (reverse es) (λ i j d less within.
    let last : j < length es = omega (arith, within, length-reverse es) in
    let first : i < length es = omega (arith, less, last) in
    let turned = order (length es - 1 - j) (length es - 1 - i) d (omega (arith, less, last)) (omega (arith, first)) in
    rw (get_or-reverse es i d first, get_or-reverse es j d last) turned)

-- the first that follows is the next one
IsNextPlace-first : (es : List Entry) (key : Key) (place : Place) (e : Entry) → Contains es e → follows key place e ≡ true → Each (λ f. follows key place f ≡ true → IsNotBefore e f) es
    → IsNextPlace es key place e.place
IsNextPlace-first es key place e held passes first = record {
  of_key = (e, held, is_same_key-true (entry_key e) key (both-first (is_of_key key e) (comes_after place e) passes), refl);
  after = both-second (is_of_key key e) (comes_after place e) passes;
  none_between = All-from_Each (λ f. entry_key f ≡ key → is_before place f.place ≡ true → is_before f.place e.place ≡ true → ⊥) es
      (Each-weaker (λ f. follows key place f ≡ true → IsNotBefore e f) (λ f. entry_key f ≡ key → is_before place f.place ≡ true → is_before f.place e.place ≡ true → ⊥)
      (λ f not_before of_key after before. false≢true (sym (not_before (follows-from key place f of_key after)) ∙ before)) es first);
}

-- a place that is told is that of what was found
place_told : (o : Option Entry) (place : Place) → option_map entry_place o ≡ Some place → (e : Entry) × (o ≡ Some e) × (e.place ≡ place)
place_told None place told = absurd (grind (arith, told))
place_told (Some e) place told = (e, refl, grind (arith, told))

-- where no place is told nothing was found
none_told : (o : Option Entry) → option_map entry_place o ≡ None → o ≡ None
none_told None told = refl
none_told (Some e) told = absurd (grind (arith, told))

-- what is found as the next place is it
next_place-some : (es : List Entry) (key : Key) (place next : Place) → IsInPostingOrder es → next_place es key place ≡ Some next → IsNextPlace es key place next
next_place-some es key place next order is =
    let told = place_told (find (follows key place) es) next is in
    let first = find-first IsBefore IsNotBefore (follows key place) (λ x. is_before-irreflexive x.place) (λ x y before. is_before-asymmetric x.place y.place before) es told.0 (Pairwise-from_AllPairs IsBefore es order) told.1 in
    subst (IsNextPlace es key place) told.2 (IsNextPlace-first es key place told.0 first.0 first.1 first.2)

-- where none is found none comes after
next_place-none : (es : List Entry) (key : Key) (place : Place) → next_place es key place ≡ None → HasNoneAfter es key place
next_place-none es key place is =
    All-from_Each (λ f. entry_key f ≡ key → is_before place f.place ≡ true → ⊥) es
    (Each-weaker (Fails (follows key place)) (λ f. entry_key f ≡ key → is_before place f.place ≡ true → ⊥)
    (λ f fails of_key after. false≢true (sym fails ∙ follows-from key place f of_key after)) es (Fails-from_none (follows key place) es (none_told (find (follows key place) es) is)))

-- the last that precedes is the previous one
IsPreviousPlace-last : (es : List Entry) (key : Key) (place : Place) (e : Entry) → Contains (reverse es) e → precedes key place e ≡ true → Each (λ f. precedes key place f ≡ true → IsNotAfter e f) (reverse es)
    → IsPreviousPlace es key place e.place
IsPreviousPlace-last es key place e held passes last =
    let turned = IsPermutation-sym es (reverse es) (IsPermutation-reverse es) in
    record {
      of_key = (e, Contains-permutation (reverse es) es e turned held, is_same_key-true (entry_key e) key (both-first (is_of_key key e) (comes_before place e) passes), refl);
      before = both-second (is_of_key key e) (comes_before place e) passes;
      none_between = All-permutation (λ f. entry_key f ≡ key → is_before e.place f.place ≡ true → is_before f.place place ≡ true → ⊥) (reverse es) es turned
          (All-from_Each (λ f. entry_key f ≡ key → is_before e.place f.place ≡ true → is_before f.place place ≡ true → ⊥) (reverse es)
          (Each-weaker (λ f. precedes key place f ≡ true → IsNotAfter e f) (λ f. entry_key f ≡ key → is_before e.place f.place ≡ true → is_before f.place place ≡ true → ⊥)
          (λ f not_after of_key after before. false≢true (sym (not_after (precedes-from key place f of_key before)) ∙ after)) (reverse es) last));
    }

-- what is found as the previous place is it
previous_place-some : (es : List Entry) (key : Key) (place previous : Place) → IsInPostingOrder es → previous_place es key place ≡ Some previous → IsPreviousPlace es key place previous
previous_place-some es key place previous order is =
    let told = place_told (find (precedes key place) (reverse es)) previous is in
    let last = find-first IsAfter IsNotAfter (precedes key place) (λ x. is_before-irreflexive x.place) (λ x y after. is_before-asymmetric y.place x.place after) (reverse es) told.0 (reverse-Pairwise es order) told.1 in
    subst (IsPreviousPlace es key place) told.2 (IsPreviousPlace-last es key place told.0 last.0 last.1 last.2)

-- where none is found none comes before
previous_place-none : (es : List Entry) (key : Key) (place : Place) → previous_place es key place ≡ None → HasNoneBefore es key place
previous_place-none es key place is =
    All-permutation (λ f. entry_key f ≡ key → is_before f.place place ≡ true → ⊥) (reverse es) es (IsPermutation-sym es (reverse es) (IsPermutation-reverse es))
    (All-from_Each (λ f. entry_key f ≡ key → is_before f.place place ≡ true → ⊥) (reverse es)
    (Each-weaker (Fails (precedes key place)) (λ f. entry_key f ≡ key → is_before f.place place ≡ true → ⊥)
    (λ f fails of_key before. false≢true (sym fails ∙ precedes-from key place f of_key before)) (reverse es) (Fails-from_none (precedes key place) (reverse es) (none_told (find (precedes key place) (reverse es)) is))))

-- the same of an answer after the place
pub next_place-answer : (es : List Entry) (key : Key) (place : Place) (r : Option Place) → IsInPostingOrder es → r ≡ next_place es key place
    → IfSome r (IsNextPlace es key place) × IfNone r (HasNoneAfter es key place)
next_place-answer es key place None order is = (tt, next_place-none es key place (sym is))
next_place-answer es key place (Some next) order is = (next_place-some es key place next order (sym is), tt)

-- the same of an answer before the place
pub previous_place-answer : (es : List Entry) (key : Key) (place : Place) (r : Option Place) → IsInPostingOrder es → r ≡ previous_place es key place
    → IfSome r (IsPreviousPlace es key place) × IfNone r (HasNoneBefore es key place)
previous_place-answer es key place None order is = (tt, previous_place-none es key place (sym is))
previous_place-answer es key place (Some previous) order is = (previous_place-some es key place previous order (sym is), tt)
