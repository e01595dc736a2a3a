-- The returns of a line among movements of which some are taken out.
use Rattle.std.proofs.Common.{◌≡◌, Bool, true, false, cond, ◌||◌, not, List, [], ◌∷◌, filter, fold, Contains, inl, inr, refl, sym, ap, ◌∙◌, subst}
use Rattle.std.specs.List.Sorted.{IsPermutation}
use Rattle.std.proofs.lemmas.Bool.{false≢true}
use Rattle.std.proofs.lemmas.List.Elements.{filter_agree}
use Rattle.std.proofs.lemmas.List.Kept.{AllPairs-filter}
use Rattle.stock_nums.specs.Places.{is_before}
use Rattle.stock_nums.specs.declared.entry.Entry.{Entry}
use Rattle.stock_nums.specs.declared.place.Place.{Place}
use Rattle.stock_nums.proofs.PlaceOrder.{is_before-irreflexive, is_before-total}
use Rattle.stock_model.specs.InOrder.{IsBefore, IsInPostingOrder}
use Rattle.stock_model.proofs.Pairwise.{Precedes-Contains, Pairwise-from_AllPairs, AllPairs-from_Pairwise, Each-weaker, Contains-first, Contains-later}
use Rattle.stock_laws.proofs.LiveEntries.{filter-passes}
use Rattle.cost_links.specs.Sources.{is_elsewhere, left_by}
use Rattle.key_order.specs.SamePlace.{is_same_place}
use Rattle.key_order.proofs.SamePlaces.{is_same_place-true, is_same_place-refl, is_same_place-before, is_same_place-after}
use Rattle.posting_order.specs.Timelines.{is_at}
use Rattle.posting_order.proofs.KeyLines.{Each-kept, filter-swap, own-place}
use Rattle.posting_order.proofs.Parting.{fails_from_not_passes}
use Rattle.quantity_check.specs.OwnPlaces.{StandApart, HaveOwnPlaces}
use Rattle.repost_index.proofs.LeftLines.{found-held}
use Rattle.repost_laws.proofs.Filtered.{Contains-filter}
use Rattle.repost_spread.specs.Removing.{line_but, line_but_all}
use Rattle.repost_spread.proofs.Permuted.{IsPermutation-filter}

-- a place before another or after it is another
elsewhere : (p q : Place) → (is_before p q || is_before q p) ≡ not (is_same_place p q)
elsewhere p q =
    elim (is_before-total p q) [
      | inl before ↦ ap (λ b. b || is_before q p) before ∙ sym (ap not (is_same_place-before p q before))
      | inr other ↦ elim other [
        | inl after ↦
            (elim (is_before p q) as (λ b. (b || is_before q p) ≡ true) [ true ↦ refl | false ↦ after ]) ∙ sym (ap not (is_same_place-after p q after))
        | inr same ↦
            subst (λ (r : Place). (is_before p r || is_before r p) ≡ not (is_same_place p r)) same
            (ap (λ b. b || b) (is_before-irreflexive p) ∙ sym (ap not (is_same_place-refl p)))
      ]
    ]

-- the returns without the one of a movement that goes
returns-left_one : (test : Entry → Bool) (line : List Entry) (e : Entry) (found : List Entry) → IsInPostingOrder line → Contains line e
    → IsPermutation found (filter test line) → IsPermutation (fold left_by found (filter test (e ∷ []))) (filter test (line_but line e))
returns-left_one test line e found ordered held same = by_cases (test e) refl
  where
    left : Entry → Bool
    left f = not (is_at e.place f)

    -- where it is no such return, all that are stay
    stays : test e ≡ false → (f : Entry) → (is_at e.place f ≡ true → f ≡ e) → test f ≡ true → left f ≡ true
    stays fails f one passes = by_place (is_at e.place f) one
      where
        by_place : (b : Bool) → (b ≡ true → f ≡ e) → not b ≡ true
        by_place true at = absurd (false≢true (sym fails ∙ ap test (sym (at refl)) ∙ passes))
        by_place false at = refl

    by_cases : (b : Bool) → test e ≡ b → IsPermutation (fold left_by found (cond b (e ∷ []) [])) (filter test (filter left line))
    by_cases true passes =
        let alike : filter (is_elsewhere e.place) (filter test line) ≡ filter test (filter left line) =
        filter_agree (is_elsewhere e.place) left (λ f. elsewhere f.place e.place) (filter test line) ∙ filter-swap left test line in
        subst (IsPermutation (left_by found e)) alike (IsPermutation-filter (is_elsewhere e.place) found (filter test line) same)
    by_cases false fails =
        let order = Pairwise-from_AllPairs IsBefore line ordered in
        let all : filter left (filter test line) ≡ filter test line =
        filter-passes (λ f. left f ≡ true) left (λ f is. is) (filter test line)
        (Each-kept (λ f. left f ≡ true) test line
        (Each-weaker (λ f. is_at e.place f ≡ true → f ≡ e) (λ f. test f ≡ true → left f ≡ true) (stays fails) line
        (own-place e.place line e order (found-held line e order held)))) in
        subst (IsPermutation found) (sym all ∙ filter-swap left test line) same

-- the movements are in the line
abbrev pub Holds : List Entry → List Entry → Type 0
Holds line es = (f : Entry) → Contains es f → Contains line f

-- others are still there
pub held-after : (line : List Entry) (e : Entry) (gone : List Entry) → HaveOwnPlaces (e ∷ gone) → Holds line (e ∷ gone) → Holds (line_but line e) gone
held-after line e gone apart held f later =
    let other = Precedes-Contains StandApart e gone f (Pairwise-from_AllPairs StandApart (e ∷ gone) apart).0 later in
    let fails : is_at e.place f ≡ false = fails_from_not_passes (is_at e.place) f (λ at. other (sym (is_same_place-true f.place e.place at))) in
    Contains-filter (λ g. not (is_at e.place g)) line f (held f (Contains-later e gone f later)) (ap not fails)

-- the returns without those of movements that go
pub returns-left : (test : Entry → Bool) (line gone found : List Entry) → IsInPostingOrder line → HaveOwnPlaces gone
    → Holds line gone → IsPermutation found (filter test line)
    → IsPermutation (fold left_by found (filter test gone)) (filter test (line_but_all line gone))
returns-left test line [] found ordered apart held same = same
returns-left test line (e ∷ gone) found ordered apart held same =
    let one = returns-left_one test line e found ordered (held e (Contains-first e gone)) same in
    let rest = returns-left test (line_but line e) gone (fold left_by found (filter test (e ∷ [])))
    (AllPairs-filter IsBefore (λ f. not (is_at e.place f)) line ordered)
    (AllPairs-from_Pairwise StandApart gone (Pairwise-from_AllPairs StandApart (e ∷ gone) apart).1)
    (held-after line e gone apart held) one in
    subst (λ (l : List Entry). IsPermutation l (filter test (line_but_all (line_but line e) gone))) (sym (parts (test e))) rest
  where
    parts : (b : Bool) → fold left_by found (cond b (e ∷ filter test gone) (filter test gone)) ≡ fold left_by (fold left_by found (cond b (e ∷ []) [])) (filter test gone)
    parts true = refl
    parts false = refl
