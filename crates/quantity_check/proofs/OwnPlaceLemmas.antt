-- Movements with places of their own can be put in posting order, and those that were have them.
use Rattle.std.proofs.Common.{◌≡◌, ℕ, suc, ◌+◌, ◌<◌, Bool, true, false, cond, List, [], ◌∷◌, ◌++◌, filter, None, sym, ap, ◌∙◌, subst, length, get_or, drop, drop-cons, arith}
use Rattle.std.proofs.lemmas.Bool.{false≢true}
use Rattle.std.proofs.lemmas.List.{append-nil}
use Rattle.stock_nums.specs.Places.{is_before}
use Rattle.stock_nums.specs.declared.entry.Entry.{Entry}
use Rattle.stock_nums.specs.declared.place.Place.{Place}
use Rattle.stock_nums.proofs.PlaceOrder.{is_before-irreflexive}
use Rattle.stock_model.specs.InOrder.{IsBefore, IsInPostingOrder}
use Rattle.stock_model.specs.PostingOrder.{put, put_all}
use Rattle.stock_model.proofs.Pairwise.{Precedes, Pairwise, Across, Each, Each-weaker, Pairwise-append, AllPairs-from_Pairwise, Pairwise-from_AllPairs}
use Rattle.stock_laws.proofs.LiveEntries.{Pairwise-filter}
use Rattle.key_order.proofs.SamePlaces.{is_same_place-true}
use Rattle.posting_order.specs.Timelines.{is_at, entry_at}
use Rattle.posting_order.proofs.Parting.{Fails, Pairwise-weaker, fails_from_not_passes, find-none}
use Rattle.posting_order.proofs.Places.{put-Precedes, IsInPostingOrder-put}
use Rattle.quantity_check.specs.OwnPlaces.{StandApart, HaveOwnPlaces}

-- a movement before another stands apart from it
pub StandApart-before : (a b : Entry) → IsBefore a b → StandApart a b
StandApart-before a b before same =
    false≢true (sym (is_before-irreflexive b.place) ∙ subst (λ (p : Place). is_before p b.place ≡ true) same before)

-- and the other from the first
pub StandApart-sym : (a b : Entry) → StandApart a b → StandApart b a
StandApart-sym a b apart same = apart (sym same)

-- what is related to each of two lists together is related to each of both
Precedes-front : {X : Type 0} (R : X → X → Type 0) (x : X) (xs ys : List X) → Precedes R x (xs ++ ys) → Precedes R x xs
Precedes-front R x [] ys h = tt
Precedes-front R x (y ∷ xs) ys h = (h.0, Precedes-front R x xs ys h.1)

-- and to each of the second
pub Precedes-back : {X : Type 0} (R : X → X → Type 0) (x : X) (xs ys : List X) → Precedes R x (xs ++ ys) → Precedes R x ys
Precedes-back R x [] ys h = h
Precedes-back R x (y ∷ xs) ys h = Precedes-back R x xs ys h.1

-- two lists of which every two elements are related fall into their parts
Pairwise-front : {X : Type 0} (R : X → X → Type 0) (xs ys : List X) → Pairwise R (xs ++ ys) → Pairwise R xs
Pairwise-front R [] ys h = tt
Pairwise-front R (x ∷ xs) ys h = (Precedes-front R x xs ys h.0, Pairwise-front R xs ys h.1)

-- and into the second
Pairwise-back : {X : Type 0} (R : X → X → Type 0) (xs ys : List X) → Pairwise R (xs ++ ys) → Pairwise R ys
Pairwise-back R [] ys h = h
Pairwise-back R (x ∷ xs) ys h = Pairwise-back R xs ys h.1

-- and each of the first is related to each of the second
pub Pairwise-Across : {X : Type 0} (R : X → X → Type 0) (xs ys : List X) → Pairwise R (xs ++ ys) → Across R xs ys
Pairwise-Across R [] ys h = tt
Pairwise-Across R (x ∷ xs) ys h = (Precedes-back R x xs ys h.0, Pairwise-Across R xs ys h.1)

-- each of the first list is related to one more
pub Across-head : {X : Type 0} (R : X → X → Type 0) (xs : List X) (y : X) (ys : List X) → Across R xs (y ∷ ys) → Each (λ x. R x y) xs
Across-head R [] y ys h = tt
Across-head R (x ∷ xs) y ys h = (h.0.0, Across-head R xs y ys h.1)

-- and to each of the others
pub Across-tail : {X : Type 0} (R : X → X → Type 0) (xs : List X) (y : X) (ys : List X) → Across R xs (y ∷ ys) → Across R xs ys
Across-tail R [] y ys h = tt
Across-tail R (x ∷ xs) y ys h = (h.0.1, Across-tail R xs y ys h.1)

-- and back, with one more
Across-cons : {X : Type 0} (R : X → X → Type 0) (xs : List X) (y : X) (ys : List X) → Each (λ x. R x y) xs → Across R xs ys → Across R xs (y ∷ ys)
Across-cons R [] y ys h k = tt
Across-cons R (x ∷ xs) y ys h k = ((h.0, k.0), Across-cons R xs y ys h.1 k.1)

-- movements of which every two are related, as such as stand apart are, have places of their own
pub HaveOwnPlaces-related : (R : Entry → Entry → Type 0) → ((a b : Entry) → R a b → StandApart a b) → (es : List Entry) → Pairwise R es → HaveOwnPlaces es
HaveOwnPlaces-related R apart es related = AllPairs-from_Pairwise StandApart es (Pairwise-weaker R StandApart apart es related)

-- those that pass a test are related to what each was
Across-filter : {X : Type 0} (R : X → X → Type 0) (p : X → Bool) (xs ys : List X) → Across R xs ys → Across R (filter p xs) ys
Across-filter R p [] ys h = tt
Across-filter R p (x ∷ xs) ys h =
    elim (p x) as (λ b. Across R (cond b (x ∷ filter p xs) (filter p xs)) ys) [
      | true ↦ (h.0, Across-filter R p xs ys h.1)
      | false ↦ Across-filter R p xs ys h.1
    ]

-- so they and further movements still have places of their own
pub HaveOwnPlaces-filter : (p : Entry → Bool) (line es : List Entry) → HaveOwnPlaces (line ++ es) → HaveOwnPlaces (filter p line ++ es)
HaveOwnPlaces-filter p line es apart =
    let all = Pairwise-from_AllPairs StandApart (line ++ es) apart in
    AllPairs-from_Pairwise StandApart (filter p line ++ es)
    (Pairwise-append StandApart (filter p line) es (Pairwise-filter StandApart p line (Pairwise-front StandApart line es all))
    (Pairwise-back StandApart line es all) (Across-filter StandApart p line es (Pairwise-Across StandApart line es all)))

-- with a movement put into a line, the pairs are those of the line and those of the movement
put-Across : (es line : List Entry) (e : Entry) → Across StandApart line es → Precedes StandApart e es → Across StandApart (put line e) es
put-Across es [] e h k = (k, tt)
put-Across es (f ∷ fs) e h k =
    elim (is_before e.place f.place) as (λ b. Across StandApart (cond b (e ∷ f ∷ fs) (f ∷ put fs e)) es) [
      | true ↦ (k, h)
      | false ↦ (h.0, put-Across es fs e h.1 k)
    ]

-- a movement stands apart from each that stands apart from it
Precedes-from_Each : (e : Entry) (fs : List Entry) → Each (λ f. StandApart f e) fs → Precedes StandApart e fs
Precedes-from_Each e [] h = tt
Precedes-from_Each e (f ∷ fs) h = (StandApart-sym f e h.0, Precedes-from_Each e fs h.1)

-- a movement put into a line stands apart from the others where it did before
put-Pairwise : (line : List Entry) (e : Entry) → Pairwise StandApart line → Each (λ f. StandApart f e) line → Pairwise StandApart (put line e)
put-Pairwise [] e h k = (tt, tt)
put-Pairwise (f ∷ fs) e h k =
    elim (is_before e.place f.place) as (λ b. Pairwise StandApart (cond b (e ∷ f ∷ fs) (f ∷ put fs e))) [
      | true ↦ (Precedes-from_Each e (f ∷ fs) k, h)
      | false ↦ (put-Precedes StandApart f fs e h.0 k.0, put-Pairwise fs e h.1 k.1)
    ]

-- and back
put-Precedes-back : (R : Entry → Entry → Type 0) (x : Entry) (line : List Entry) (e : Entry) → Precedes R x (put line e) → Precedes R x line × R x e
put-Precedes-back R x [] e h = (tt, h.0)
put-Precedes-back R x (f ∷ fs) e h = by_cases (is_before e.place f.place) (put-Precedes-back R x fs e) h
  where
    by_cases : (b : Bool) → (Precedes R x (put fs e) → Precedes R x fs × R x e) → Precedes R x (cond b (e ∷ f ∷ fs) (f ∷ put fs e)) → Precedes R x (f ∷ fs) × R x e
    by_cases true rest h = (h.1, h.0)
    by_cases false rest h = let both = rest h.1 in ((h.0, both.0), both.1)

-- the same of the pairs with further movements
put-Across-back : (es line : List Entry) (e : Entry) → Across StandApart (put line e) es → Across StandApart line es × Precedes StandApart e es
put-Across-back es [] e h = (tt, h.0)
put-Across-back es (f ∷ fs) e h = by_cases (is_before e.place f.place) (put-Across-back es fs e) h
  where
    by_cases : (b : Bool) → (Across StandApart (put fs e) es → Across StandApart fs es × Precedes StandApart e es) → Across StandApart (cond b (e ∷ f ∷ fs) (f ∷ put fs e)) es
        → Across StandApart (f ∷ fs) es × Precedes StandApart e es
    by_cases true rest h = (h.1, h.0)
    by_cases false rest h = let both = rest h.1 in ((h.0, both.0), both.1)

-- each stands apart from a movement that does from each
Each-from_Precedes_back : (e : Entry) (fs : List Entry) → Precedes StandApart e fs → Each (λ f. StandApart f e) fs
Each-from_Precedes_back e [] h = tt
Each-from_Precedes_back e (f ∷ fs) h = (StandApart-sym e f h.0, Each-from_Precedes_back e fs h.1)

-- the movement stood apart from the others, and they from each other
put-Pairwise-back : (line : List Entry) (e : Entry) → Pairwise StandApart (put line e) → Pairwise StandApart line × Each (λ f. StandApart f e) line
put-Pairwise-back [] e h = (tt, tt)
put-Pairwise-back (f ∷ fs) e h = by_cases (is_before e.place f.place) (put-Pairwise-back fs e) h
  where
    by_cases : (b : Bool) → (Pairwise StandApart (put fs e) → Pairwise StandApart fs × Each (λ g. StandApart g e) fs) → Pairwise StandApart (cond b (e ∷ f ∷ fs) (f ∷ put fs e))
        → Pairwise StandApart (f ∷ fs) × Each (λ g. StandApart g e) (f ∷ fs)
    by_cases true rest h = (h.1, Each-from_Precedes_back e (f ∷ fs) h.0)
    by_cases false rest h =
        let first = put-Precedes-back StandApart f fs e h.0 in
        let others = rest h.1 in
        ((first.0, others.0), (first.1, others.1))

-- a movement put into the line is none of the further ones
put-apart : (line : List Entry) (e : Entry) (es : List Entry) → Pairwise StandApart (line ++ e ∷ es) → Pairwise StandApart (put line e ++ es)
put-apart line e es h =
    let across = Pairwise-Across StandApart line (e ∷ es) h in
    let rest = Pairwise-back StandApart line (e ∷ es) h in
    Pairwise-append StandApart (put line e) es
    (put-Pairwise line e (Pairwise-front StandApart line (e ∷ es) h) (Across-head StandApart line e es across))
    rest.1
    (put-Across es line e (Across-tail StandApart line e es across) rest.0)

-- and back
put-apart-back : (line : List Entry) (e : Entry) (es : List Entry) → Pairwise StandApart (put line e ++ es) → Pairwise StandApart (line ++ e ∷ es)
put-apart-back line e es h =
    let parts = put-Pairwise-back line e (Pairwise-front StandApart (put line e) es h) in
    let across = put-Across-back es line e (Pairwise-Across StandApart (put line e) es h) in
    Pairwise-append StandApart line (e ∷ es) parts.0 (across.1, Pairwise-back StandApart (put line e) es h) (Across-cons StandApart line e es parts.1 across.0)

-- the same of all that were put in
put_all-apart-back : (line es : List Entry) → Pairwise StandApart (put_all line es) → Pairwise StandApart (line ++ es)
put_all-apart-back line [] h = subst (Pairwise StandApart) (sym (append-nil line)) h
put_all-apart-back line (e ∷ es) h = put-apart-back line e es (put_all-apart-back (put line e) es h)

-- movements that stand in posting order once they are put in have places of their own
pub HaveOwnPlaces-put_all : (line es : List Entry) → IsInPostingOrder (put_all line es) → HaveOwnPlaces (line ++ es)
HaveOwnPlaces-put_all line es order =
    AllPairs-from_Pairwise StandApart (line ++ es)
    (put_all-apart-back line es
    (Pairwise-weaker IsBefore StandApart StandApart-before (put_all line es) (Pairwise-from_AllPairs IsBefore (put_all line es) order)))

-- the next of them stands where none of the line does
pub entry_at-next : (line : List Entry) (e : Entry) (es : List Entry) → HaveOwnPlaces (line ++ e ∷ es) → entry_at line e.place ≡ None
entry_at-next line e es apart =
    find-none (is_at e.place) line (none_there line (Across-head StandApart line e es (Pairwise-Across StandApart line (e ∷ es) (Pairwise-from_AllPairs StandApart (line ++ e ∷ es) apart))))
  where
    other : (f : Entry) → StandApart f e → is_at e.place f ≡ false
    other f apart = fails_from_not_passes (is_at e.place) f (λ there. apart (is_same_place-true f.place e.place there))

    none_there : (fs : List Entry) → Each (λ f. StandApart f e) fs → Each (Fails (is_at e.place)) fs
    none_there fs h = Each-weaker (λ f. StandApart f e) (Fails (is_at e.place)) other fs h

-- and once it is put in all still have places of their own
pub HaveOwnPlaces-next : (line : List Entry) (e : Entry) (es : List Entry) → HaveOwnPlaces (line ++ e ∷ es) → HaveOwnPlaces (put line e ++ es)
HaveOwnPlaces-next line e es apart =
    AllPairs-from_Pairwise StandApart (put line e ++ es) (put-apart line e es (Pairwise-from_AllPairs StandApart (line ++ e ∷ es) apart))

-- and once several are put in
pub HaveOwnPlaces-put_first : (line es more : List Entry) → HaveOwnPlaces (line ++ (es ++ more)) → HaveOwnPlaces (put_all line es ++ more)
HaveOwnPlaces-put_first line [] more apart = apart
HaveOwnPlaces-put_first line (e ∷ es) more apart =
    HaveOwnPlaces-put_first (put line e) es more (HaveOwnPlaces-next line e (es ++ more) apart)

-- movements with places of their own stand in posting order once they are put in
pub IsInPostingOrder-put_all : (line es : List Entry) → IsInPostingOrder line → HaveOwnPlaces (line ++ es) → IsInPostingOrder (put_all line es)
IsInPostingOrder-put_all line [] order apart = order
IsInPostingOrder-put_all line (e ∷ es) order apart =
    IsInPostingOrder-put_all (put line e) es (IsInPostingOrder-put line e order (entry_at-next line e es apart)) (HaveOwnPlaces-next line e es apart)

-- the next of the further movements is the first of the rest
pub drop-next : (es : List Entry) (i : ℕ) (e : Entry) → i < length es → e ≡ get_or es i e → drop i es ≡ e ∷ drop (i + 1) es
drop-next es i e within is =
    let one_more : suc i ≡ i + 1 = omega arith in
    drop-cons es i e within ∙ ap (λ (f : Entry). f ∷ drop (suc i) es) (sym is) ∙ ap (λ (k : ℕ). e ∷ drop k es) one_more

-- a step of putting all in
pub HaveOwnPlaces-step : (line es : List Entry) (i : ℕ) (e : Entry) → i < length es → e ≡ get_or es i e → HaveOwnPlaces (line ++ drop i es)
    → (entry_at line e.place ≡ None) × HaveOwnPlaces (put line e ++ drop (i + 1) es)
HaveOwnPlaces-step line es i e within is apart =
    let more = subst (λ (rest : List Entry). HaveOwnPlaces (line ++ rest)) (drop-next es i e within is) apart in
    (entry_at-next line e (drop (i + 1) es) more, HaveOwnPlaces-next line e (drop (i + 1) es) more)

-- the rest put in after the next gives what it did before
pub put_all-step : (line new old es : List Entry) (i : ℕ) (e : Entry) → i < length es → e ≡ get_or es i e → new ≡ put line e → put_all line (drop i es) ≡ put_all old es
    → put_all new (drop (i + 1) es) ≡ put_all old es
put_all-step line new old es i e within is made so_far =
    ap (λ (l : List Entry). put_all l (drop (i + 1) es)) made ∙ ap (put_all line) (sym (drop-next es i e within is)) ∙ so_far
