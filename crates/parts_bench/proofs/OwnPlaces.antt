-- One movement more at a place of its own.
use Rattle.std.proofs.Common.{◌≡◌, ℕ, suc, ◌+◌, ◌<◌, true, false, List, [], ◌∷◌, ◌++◌, None, sym, ap, ◌∙◌, subst, length, get_or, take, arith}
use Rattle.std.proofs.Math.Seq.{take-suc}
use Rattle.std.proofs.lemmas.Bool.{false≢true}
use Rattle.std.proofs.lemmas.List.{append_assoc}
use Rattle.stock_nums.specs.declared.entry.Entry.{Entry}
use Rattle.stock_nums.specs.declared.place.Place.{Place}
use Rattle.stock_model.proofs.Pairwise.{Pairwise, Across, Each, Each-append, Pairwise-append, AllPairs-from_Pairwise, Pairwise-from_AllPairs}
use Rattle.key_order.specs.SamePlace.{is_same_place}
use Rattle.key_order.proofs.SamePlaces.{is_same_place-refl}
use Rattle.posting_order.specs.Timelines.{is_at, entry_at}
use Rattle.posting_order.proofs.Parting.{Fails, Fails-from_none, find-none}
use Rattle.quantity_check.specs.OwnPlaces.{StandApart, HaveOwnPlaces}

-- one more of the movements
take-next : (es : List Entry) (i : ℕ) (e : Entry) → i < length es → e ≡ get_or es i e → take (i + 1) es ≡ take i es ++ e ∷ []
take-next es i e within is =
    let one_more : i + 1 ≡ suc i = omega arith in
    ap (λ (k : ℕ). take k es) one_more ∙ take-suc es i e within ∙ ap (λ (f : Entry). take i es ++ f ∷ []) (sym is)

-- none of the movements so far stands at the place, nor does the next
pub entry_at-step : (es : List Entry) (place : Place) (i : ℕ) (e : Entry) → i < length es → e ≡ get_or es i e → is_at place e ≡ false
    → entry_at (take i es) place ≡ None → entry_at (take (i + 1) es) place ≡ None
entry_at-step es place i e within is fails none =
    find-none (is_at place) (take (i + 1) es)
    (subst (Each (Fails (is_at place))) (sym (take-next es i e within is))
    (Each-append (Fails (is_at place)) (take i es) (e ∷ []) (Fails-from_none (is_at place) (take i es) none) (fails, tt)))

-- movements of which none stands at the place of one stand apart from it
apart-from_one : (es : List Entry) (e : Entry) → Each (Fails (is_at e.place)) es → Across StandApart es (e ∷ [])
apart-from_one [] e h = tt
apart-from_one (f ∷ fs) e h =
    ((λ same. false≢true (sym h.0 ∙ subst (λ (p : Place). is_same_place f.place p ≡ true) same (is_same_place-refl f.place)), tt), apart-from_one fs e h.1)

-- with one more that stands at the place of none before it, movements have places of their own
pub HaveOwnPlaces-more : (line es : List Entry) (i : ℕ) (e : Entry) → i < length es → e ≡ get_or es i e → entry_at line e.place ≡ None
    → entry_at (take i es) e.place ≡ None → HaveOwnPlaces (line ++ take i es) → HaveOwnPlaces (line ++ take (i + 1) es)
HaveOwnPlaces-more line es i e within is free others apart =
    let before = line ++ take i es in
    let none : Each (Fails (is_at e.place)) before =
    Each-append (Fails (is_at e.place)) line (take i es) (Fails-from_none (is_at e.place) line free) (Fails-from_none (is_at e.place) (take i es) others) in
    let more : Pairwise StandApart (before ++ e ∷ []) =
    Pairwise-append StandApart before (e ∷ []) (Pairwise-from_AllPairs StandApart before apart) (tt, tt) (apart-from_one before e none) in
    let all : before ++ e ∷ [] ≡ line ++ take (i + 1) es =
    append_assoc line (take i es) (e ∷ []) ∙ ap (λ (fs : List Entry). line ++ fs) (sym (take-next es i e within is)) in
    AllPairs-from_Pairwise StandApart (line ++ take (i + 1) es) (subst (Pairwise StandApart) all more)
