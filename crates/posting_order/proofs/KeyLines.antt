-- What movements change, by keys and in posting order: the changes of one key stay those of its movements, whatever is put in or
-- taken out.
use Rattle.std.proofs.Common.{◌≡◌, suc, Bool, true, false, cond, ◌&&◌, not, List, [], ◌∷◌, length, filter, Some, None, inl, inr, refl, sym, ap, ◌∙◌, subst}
use Rattle.std.proofs.lemmas.Bool.{false≢true}
use Rattle.std.proofs.lemmas.List.{length-map}
use Rattle.stock_nums.specs.Places.{is_before}
use Rattle.stock_nums.specs.declared.entry.Entry.{Entry}
use Rattle.stock_nums.specs.declared.entry.Key.{Key}
use Rattle.stock_nums.specs.declared.place.Place.{Place}
use Rattle.stock_nums.proofs.PlaceOrder.{is_before-transitive}
use Rattle.stock_model.specs.Enough.{entry_key, is_of_key, is_same_key}
use Rattle.stock_model.specs.InOrder.{IsBefore, IsInPostingOrder}
use Rattle.stock_model.specs.PostingOrder.{put}
use Rattle.stock_model.specs.Sheets.{is_key_before}
use Rattle.stock_model.proofs.Pairwise.{Pairwise, Each, Each-weaker, Pairwise-from_AllPairs}
use Rattle.stock_laws.proofs.Enough.{is_same_key-true, is_same_key-refl}
use Rattle.key_order.specs.Changes.{change_of, changes_of, of_key}
use Rattle.posting_order.specs.KeyLines.{AreOf}
use Rattle.key_order.specs.KeyOrders.{precedes, AreInKeyOrder, HasNoneAt, put_change, is_change_at, without_change}
use Rattle.key_order.specs.SamePlace.{is_same_place}
use Rattle.posting_order.specs.Timelines.{is_at, entry_at, without}
use Rattle.key_order.specs.declared.change.Change.{Change}
use Rattle.key_order.proofs.KeyOrdering.{Before, or-fails_second, and-rest, and-second, either-of, key-irreflexive, precedes-transitive}
use Rattle.posting_order.proofs.Parting.{Fails, Each-from_Precedes, All-from_Each, Fails-from_none}
use Rattle.key_order.proofs.SamePlaces.{is_same_place-refl}
use Rattle.posting_order.proofs.Places.{not_at-later}

-- what each has where it passes the test, those that are kept have
pub Each-kept : {X : Type 0} (P : X → Type 0) (p : X → Bool) (xs : List X) → Each (λ x. p x ≡ true → P x) xs → Each P (filter p xs)
Each-kept P p [] h = tt
Each-kept P p (x ∷ xs) h = by_cases (p x) refl (Each-kept P p xs h.1)
  where
    by_cases : (b : Bool) → p x ≡ b → Each P (filter p xs) → Each P (cond b (x ∷ filter p xs) (filter p xs))
    by_cases true is rest = (h.0 is, rest)
    by_cases false is rest = rest

-- and back
pub Each-passing : {X : Type 0} (P : X → Type 0) (p : X → Bool) (xs : List X) → Each P (filter p xs) → Each (λ x. p x ≡ true → P x) xs
Each-passing P p [] h = tt
Each-passing P p (x ∷ xs) h = by_cases (p x) refl (Each-passing P p xs) h
  where
    by_cases : (b : Bool) → p x ≡ b → (Each P (filter p xs) → Each (λ y. p y ≡ true → P y) xs) → Each P (cond b (x ∷ filter p xs) (filter p xs)) → Each (λ y. p y ≡ true → P y) (x ∷ xs)
    by_cases true is rest k = (λ passes. k.0, rest k.1)
    by_cases false is rest k = (λ passes. absurd (false≢true (sym is ∙ passes)), rest k)

-- two tests in either order keep the same
pub filter-swap : {X : Type 0} (p q : X → Bool) (xs : List X) → filter p (filter q xs) ≡ filter q (filter p xs)
filter-swap p q [] = refl
filter-swap p q (x ∷ xs) = by_cases (p x) (q x) refl refl (filter-swap p q xs)
  where
    by_cases : (a b : Bool) → p x ≡ a → q x ≡ b → filter p (filter q xs) ≡ filter q (filter p xs)
        → filter p (cond b (x ∷ filter q xs) (filter q xs)) ≡ filter q (cond a (x ∷ filter p xs) (filter p xs))
    by_cases true true is_p is_q rest = rw is_p (rw is_q (ap (λ ys. x ∷ ys) rest))
    by_cases true false is_p is_q rest = rw is_q rest
    by_cases false true is_p is_q rest = rw is_p rest
    by_cases false false is_p is_q rest = rest

-- the changes of movements that are kept
filter-changes : (p : Change → Bool) (q : Entry → Bool) (es : List Entry) → Each (λ e. p (change_of e) ≡ q e) es → filter p (changes_of es) ≡ changes_of (filter q es)
filter-changes p q [] h = refl
filter-changes p q (e ∷ es) h = by_cases (q e) h.0 (filter-changes p q es h.1)
  where
    by_cases : (b : Bool) → p (change_of e) ≡ b → filter p (changes_of es) ≡ changes_of (filter q es)
        → filter p (changes_of (e ∷ es)) ≡ changes_of (cond b (e ∷ filter q es) (filter q es))
    by_cases true is rest = rw is (ap (λ cs. change_of e ∷ cs) rest)
    by_cases false is rest = rw is rest

-- a change put among those of one key
abbrev pub put_place : List Change → Change → List Change
put_place [] c = c ∷ []
put_place (d ∷ ds) c = cond (is_before c.place d.place) (c ∷ d ∷ ds) (d ∷ put_place ds c)

-- before all that come after it
put_place-front : (cs : List Change) (c : Change) → Each (λ d. is_before c.place d.place ≡ true) cs → put_place cs c ≡ c ∷ cs
put_place-front [] c h = refl
put_place-front (d ∷ ds) c h = rw h.0 refl

-- a change of the same key that comes later in key order stands at a later place
later-place : (c d : Change) (key : Key) → is_same_key c.key key ≡ true → precedes c d ≡ true → is_same_key d.key key ≡ true → is_before c.place d.place ≡ true
later-place c d key own before same =
    let one : c.key ≡ d.key = is_same_key-true c.key key own ∙ sym (is_same_key-true d.key key same) in
    elim (either-of (is_key_before c.key d.key) (is_same_key c.key d.key && is_before c.place d.place) before) [
      | inl earlier ↦ absurd (false≢true (sym (key-irreflexive d.key) ∙ subst (λ (k : Key). is_key_before k d.key ≡ true) one earlier))
      | inr both ↦ and-second (is_same_key c.key d.key) (is_before c.place d.place) both
    ]

-- a change of the same key that does not come later in key order does not stand at a later place
no_later-place : (c d : Change) (key : Key) → is_same_key c.key key ≡ true → precedes c d ≡ false → is_same_key d.key key ≡ true → is_before c.place d.place ≡ false
no_later-place c d key own fails same =
    let one : c.key ≡ d.key = is_same_key-true c.key key own ∙ sym (is_same_key-true d.key key same) in
    let alike : is_same_key c.key d.key ≡ true = subst (λ (k : Key). is_same_key k d.key ≡ true) (sym one) (is_same_key-refl d.key) in
    and-rest (is_same_key c.key d.key) (is_before c.place d.place) alike (or-fails_second (is_key_before c.key d.key) (is_same_key c.key d.key && is_before c.place d.place) fails)

-- a change put in, among those of its key
pub of_key-put_change : (key : Key) (cs : List Change) (c : Change) → Pairwise Before cs → is_same_key c.key key ≡ true → of_key key (put_change cs c) ≡ put_place (of_key key cs) c
of_key-put_change key [] c order own = rw own refl
of_key-put_change key (d ∷ ds) c order own = by_cases (precedes c d) refl (of_key-put_change key ds c order.1 own)
  where
    by_key : (b : Bool) → is_same_key d.key key ≡ b → precedes c d ≡ false → of_key key (put_change ds c) ≡ put_place (of_key key ds) c
        → cond b (d ∷ of_key key (put_change ds c)) (of_key key (put_change ds c)) ≡ put_place (cond b (d ∷ of_key key ds) (of_key key ds)) c
    by_key true same fails rest = rw (no_later-place c d key own fails same) (ap (λ xs. d ∷ xs) rest)
    by_key false other fails rest = rest

    by_cases : (b : Bool) → precedes c d ≡ b → of_key key (put_change ds c) ≡ put_place (of_key key ds) c
        → of_key key (cond b (c ∷ d ∷ ds) (d ∷ put_change ds c)) ≡ put_place (of_key key (d ∷ ds)) c
    by_cases true is rest =
        let later : Each (λ x. is_same_key x.key key ≡ true → is_before c.place x.place ≡ true) ds =
        Each-from_Precedes Before (λ x. is_same_key x.key key ≡ true → is_before c.place x.place ≡ true) d (λ x follows. later-place c x key own (precedes-transitive c d x is follows)) ds order.0 in
        let front = put_place-front (of_key key (d ∷ ds)) c (Each-kept (λ x. is_before c.place x.place ≡ true) (λ x. is_same_key x.key key) (d ∷ ds) (later-place c d key own is, later)) in
        rw own (sym front)
    by_cases false is rest = by_key (is_same_key d.key key) refl is rest

-- those of another key stay
pub of_key-put_change-other : (key : Key) (cs : List Change) (c : Change) → is_same_key c.key key ≡ false → of_key key (put_change cs c) ≡ of_key key cs
of_key-put_change-other key [] c other = rw other refl
of_key-put_change-other key (d ∷ ds) c other = by_cases (precedes c d) (of_key-put_change-other key ds c other)
  where
    by_cases : (b : Bool) → of_key key (put_change ds c) ≡ of_key key ds → of_key key (cond b (c ∷ d ∷ ds) (d ∷ put_change ds c)) ≡ of_key key (d ∷ ds)
    by_cases true rest = rw other refl
    by_cases false rest = elim (is_same_key d.key key) as (λ b. cond b (d ∷ of_key key (put_change ds c)) (of_key key (put_change ds c)) ≡ cond b (d ∷ of_key key ds) (of_key key ds)) [
      | true ↦ ap (λ xs. d ∷ xs) rest
      | false ↦ rest
    ]

-- a movement put in, among those of its key
of_key-put : (key : Key) (es : List Entry) (e : Entry) → Pairwise IsBefore es → is_of_key key e ≡ true → of_key key (changes_of (put es e)) ≡ put_place (of_key key (changes_of es)) (change_of e)
of_key-put key [] e order own = rw own refl
of_key-put key (f ∷ fs) e order own = by_cases (is_before e.place f.place) refl (of_key-put key fs e order.1 own)
  where
    by_key : (b : Bool) → is_before e.place f.place ≡ false → of_key key (changes_of (put fs e)) ≡ put_place (of_key key (changes_of fs)) (change_of e)
        → cond b (change_of f ∷ of_key key (changes_of (put fs e))) (of_key key (changes_of (put fs e))) ≡ put_place (cond b (change_of f ∷ of_key key (changes_of fs)) (of_key key (changes_of fs))) (change_of e)
    by_key true fails rest = rw fails (ap (λ xs. change_of f ∷ xs) rest)
    by_key false fails rest = rest

    later : is_before e.place f.place ≡ true → (gs : List Entry) → Each (λ g. is_before e.place g.place ≡ true) gs → Each (λ c. is_before e.place c.place ≡ true) (of_key key (changes_of gs))
    later is [] h = tt
    later is (g ∷ gs) h = elim (is_of_key key g) as (λ b. Each (λ c. is_before e.place c.place ≡ true) (cond b (change_of g ∷ of_key key (changes_of gs)) (of_key key (changes_of gs)))) [
      | true ↦ (h.0, later is gs h.1)
      | false ↦ later is gs h.1
    ]

    by_cases : (b : Bool) → is_before e.place f.place ≡ b → of_key key (changes_of (put fs e)) ≡ put_place (of_key key (changes_of fs)) (change_of e)
        → of_key key (changes_of (cond b (e ∷ f ∷ fs) (f ∷ put fs e))) ≡ put_place (of_key key (changes_of (f ∷ fs))) (change_of e)
    by_cases true is rest =
        let all = Each-from_Precedes IsBefore (λ g. is_before e.place g.place ≡ true) f (λ g before. is_before-transitive e.place f.place g.place is before) fs order.0 in
        let front = put_place-front (of_key key (changes_of (f ∷ fs))) (change_of e) (later is (f ∷ fs) (is, all)) in
        rw own (sym front)
    by_cases false is rest = by_key (is_of_key key f) is rest

-- those of another key stay
of_key-put-other : (key : Key) (es : List Entry) (e : Entry) → is_of_key key e ≡ false → of_key key (changes_of (put es e)) ≡ of_key key (changes_of es)
of_key-put-other key [] e other = rw other refl
of_key-put-other key (f ∷ fs) e other = by_cases (is_before e.place f.place) (of_key-put-other key fs e other)
  where
    by_cases : (b : Bool) → of_key key (changes_of (put fs e)) ≡ of_key key (changes_of fs) → of_key key (changes_of (cond b (e ∷ f ∷ fs) (f ∷ put fs e))) ≡ of_key key (changes_of (f ∷ fs))
    by_cases true rest = rw other refl
    by_cases false rest = elim (is_of_key key f) as (λ b. cond b (change_of f ∷ of_key key (changes_of (put fs e))) (of_key key (changes_of (put fs e))) ≡ cond b (change_of f ∷ of_key key (changes_of fs)) (of_key key (changes_of fs))) [
      | true ↦ ap (λ xs. change_of f ∷ xs) rest
      | false ↦ rest
    ]

-- a movement put in, and what it changes
pub AreOf-put : (es : List Entry) (cs : List Change) (e : Entry) → IsInPostingOrder es → AreInKeyOrder cs → AreOf es cs → AreOf (put es e) (put_change cs (change_of e))
AreOf-put es cs e order keys are key = by_cases (is_of_key key e) refl
  where
    by_cases : (b : Bool) → is_of_key key e ≡ b → of_key key (put_change cs (change_of e)) ≡ of_key key (changes_of (put es e))
    by_cases true own =
        of_key-put_change key cs (change_of e) (Pairwise-from_AllPairs Before cs keys) own
        ∙ ap (λ xs. put_place xs (change_of e)) (are key)
        ∙ sym (of_key-put key es e (Pairwise-from_AllPairs IsBefore es order) own)
    by_cases false other = of_key-put_change-other key cs (change_of e) other ∙ are key ∙ sym (of_key-put-other key es e other)

-- none at the place of a movement that may be put in
pub HasNoneAt-from_none : (es : List Entry) (cs : List Change) (e : Entry) → AreOf es cs → entry_at es e.place ≡ None → HasNoneAt cs (entry_key e) e.place
HasNoneAt-from_none es cs e are none =
    let key = entry_key e in
    let other : (fs : List Entry) → Each (Fails (is_at e.place)) fs → Each (λ c. c.place ≡ e.place → ⊥) (of_key key (changes_of fs)) = apart key e.place in
    let own = subst (λ (xs : List Change). Each (λ c. c.place ≡ e.place → ⊥) xs) (sym (are key)) (other es (Fails-from_none (is_at e.place) es none)) in
    All-from_Each (λ c. c.key ≡ key → c.place ≡ e.place → ⊥) cs
    (Each-weaker (λ c. is_same_key c.key key ≡ true → c.place ≡ e.place → ⊥) (λ c. c.key ≡ key → c.place ≡ e.place → ⊥)
    (λ c h same. h (subst (λ (k : Key). is_same_key k key ≡ true) (sym same) (is_same_key-refl key))) cs
    (Each-passing (λ c. c.place ≡ e.place → ⊥) (λ c. is_same_key c.key key) cs own))
  where
    apart : (key : Key) (place : Place) (fs : List Entry) → Each (Fails (is_at place)) fs → Each (λ c. c.place ≡ place → ⊥) (of_key key (changes_of fs))
    apart key place [] h = tt
    apart key place (f ∷ fs) h = elim (is_of_key key f) as (λ b. Each (λ c. c.place ≡ place → ⊥) (cond b (change_of f ∷ of_key key (changes_of fs)) (of_key key (changes_of fs)))) [
      | true ↦ (λ there. false≢true (sym h.0 ∙ subst (λ (p : Place). is_same_place p place ≡ true) (sym there) (is_same_place-refl place)), apart key place fs h.1)
      | false ↦ apart key place fs h.1
    ]

-- only the movement that is found stands at the place
pub own-place : (place : Place) (es : List Entry) (e : Entry) → Pairwise IsBefore es → entry_at es place ≡ Some e → Each (λ f. is_at place f ≡ true → f ≡ e) es
own-place place [] e order found = tt
own-place place (f ∷ fs) e order found = by_cases (is_at place f) refl (own-place place fs e order.1) found
  where
    by_cases : (b : Bool) → is_at place f ≡ b → (entry_at fs place ≡ Some e → Each (λ g. is_at place g ≡ true → g ≡ e) fs) → cond b (Some f) (entry_at fs place) ≡ Some e
        → Each (λ g. is_at place g ≡ true → g ≡ e) (f ∷ fs)
    by_cases true is rest h =
        let same : f ≡ e = cc in
        let none = Each-from_Precedes IsBefore (λ g. is_at place g ≡ true → g ≡ e) f (λ g before at. absurd (false≢true (sym (not_at-later place f g is before) ∙ at))) fs order.0 in
        (λ at. same, none)
    by_cases false is rest h = (λ at. absurd (false≢true (sym is ∙ at)), rest h)

-- a test that a second one implies is told by the second alone
pub not-both : (a b : Bool) → (b ≡ true → a ≡ true) → not (a && b) ≡ not b
not-both true b h = refl
not-both false true h = absurd (false≢true (h refl))
not-both false false h = refl

-- a movement taken out, and what it changed
pub AreOf-without : (es : List Entry) (cs : List Change) (place : Place) (e : Entry) → IsInPostingOrder es → AreOf es cs → entry_at es place ≡ Some e
    → AreOf (without es place) (without_change cs (entry_key e) place)
AreOf-without es cs place e order are found key =
    let own = entry_key e in
    let kept : Change → Bool = λ c. not (is_change_at own place c) in
    let alike : Each (λ f. kept (change_of f) ≡ not (is_at place f)) es =
    Each-weaker (λ f. is_at place f ≡ true → f ≡ e) (λ f. kept (change_of f) ≡ not (is_at place f))
    (λ f h. not-both (is_same_key (entry_key f) own) (is_at place f) (λ at. subst (λ (g : Entry). is_same_key (entry_key g) own ≡ true) (sym (h at)) (is_same_key-refl own))) es
    (own-place place es e (Pairwise-from_AllPairs IsBefore es order) found) in
    filter-swap (λ c. is_same_key c.key key) kept cs
    ∙ ap (filter kept) (are key)
    ∙ filter-swap kept (λ c. is_same_key c.key key) (changes_of es)
    ∙ ap (of_key key) (filter-changes kept (λ f. not (is_at place f)) es alike)

-- the first change of its key, taken out of a list
drop_first : (c : Change) (ds xs : List Change) → of_key c.key ds ≡ c ∷ xs → (rest : List Change) × (length ds ≡ suc (length rest)) × ((key : Key) → of_key key ds ≡ of_key key (c ∷ rest))
drop_first c [] xs h = cc
drop_first c (d ∷ ds) xs h = by_cases (is_same_key d.key c.key) refl (drop_first c ds xs) h
  where
    step : (key : Key) (rest : List Change) (own same : Bool) → (own ≡ true → same ≡ false) → of_key key ds ≡ cond own (c ∷ of_key key rest) (of_key key rest)
        → cond same (d ∷ of_key key ds) (of_key key ds) ≡ cond own (c ∷ cond same (d ∷ of_key key rest) (of_key key rest)) (cond same (d ∷ of_key key rest) (of_key key rest))
    step key rest true true apart is = absurd (false≢true (sym (apart refl)))
    step key rest true false apart is = is
    step key rest false true apart is = ap (λ ys. d ∷ ys) is
    step key rest false false apart is = is

    by_cases : (b : Bool) → is_same_key d.key c.key ≡ b → (of_key c.key ds ≡ c ∷ xs → (rest : List Change) × (length ds ≡ suc (length rest)) × ((key : Key) → of_key key ds ≡ of_key key (c ∷ rest)))
        → cond b (d ∷ of_key c.key ds) (of_key c.key ds) ≡ c ∷ xs → (rest : List Change) × (length (d ∷ ds) ≡ suc (length rest)) × ((key : Key) → of_key key (d ∷ ds) ≡ of_key key (c ∷ rest))
    by_cases true same further k =
        let one : d ≡ c = cc in
        (ds, refl, λ key. ap (λ (x : Change). of_key key (x ∷ ds)) one)
    by_cases false other further k =
        let (rest, count, is) = further k in (
          d ∷ rest,
          ap suc count,
          λ key.
              step key rest (is_same_key c.key key) (is_same_key d.key key)
              (λ own. subst (λ (x : Key). is_same_key d.key x ≡ false) (is_same_key-true c.key key own) other) (is key),
        )

-- lists with the same of each key are equally long
pub same-length : (cs ds : List Change) → ((key : Key) → of_key key cs ≡ of_key key ds) → length cs ≡ length ds
same-length [] [] same = refl
same-length [] (d ∷ ds) same =
    let none : [] ≡ d ∷ of_key d.key ds = same d.key ∙ ap (λ b. cond b (d ∷ of_key d.key ds) (of_key d.key ds)) (is_same_key-refl d.key) in
    cc
same-length (c ∷ cs) ds same =
    let first : of_key c.key ds ≡ c ∷ of_key c.key cs = sym (same c.key) ∙ ap (λ b. cond b (c ∷ of_key c.key cs) (of_key c.key cs)) (is_same_key-refl c.key) in
    let (rest, count, is) = drop_first c ds (of_key c.key cs) first in
    ap suc (same-length cs rest (λ key. others key rest (same key ∙ is key))) ∙ sym count
  where
    others : (key : Key) (rest : List Change) → of_key key (c ∷ cs) ≡ of_key key (c ∷ rest) → of_key key cs ≡ of_key key rest
    others key rest h = by_cases (is_same_key c.key key) h
      where
        by_cases : (b : Bool) → cond b (c ∷ of_key key cs) (of_key key cs) ≡ cond b (c ∷ of_key key rest) (of_key key rest) → of_key key cs ≡ of_key key rest
        by_cases true k = cc
        by_cases false k = k

-- as many changes as movements
pub AreOf-length : (es : List Entry) (cs : List Change) → AreOf es cs → length cs ≡ length es
AreOf-length es cs are = same-length cs (changes_of es) are ∙ length-map es change_of
