-- Where all movements of a line are valued in their order, what is found is local at each.
use Rattle.std.proofs.Common.{◌≡◌, ◌≢◌, ℕ, Bool, true, false, ◌&&◌, not, List, [], ◌∷◌, ◌++◌, fold, Some, if◌then◌else◌, inl, inr, refl, sym, ap, ◌∙◌, subst, arith, append_assoc, Contains}
use Rattle.std.proofs.lemmas.List.{append-nil}
use Rattle.stock_nums.specs.Places.{is_before}
use Rattle.stock_nums.specs.declared.cause.Target.{Target}
use Rattle.stock_nums.specs.declared.entry.Entry.{Entry}
use Rattle.stock_nums.specs.declared.place.Place.{Place}
use Rattle.stock_nums.proofs.PlaceOrder.{is_before-irreflexive, is_before-total}
use Rattle.stock_model.specs.InOrder.{IsBefore, IsInPostingOrder}
use Rattle.stock_model.proofs.Pairwise.{Contains-cases}
use Rattle.cost_links.specs.Sources.{comes_before}
use Rattle.repost_laws.specs.Builds.{IsFoundAt}
use Rattle.repost_laws.specs.Touched.{IsMarked}
use Rattle.repost_laws.specs.Valuations.{Found, valuation, IsLocal, AreLocal, is_one_place, found_with, nothing_found, found_in_order}
use Rattle.repost_laws.proofs.EarlierOnes.{earlier-is_past, never_both, never_itself}
use Rattle.repost_laws.proofs.Filtered.{Contains-filtered}
use Rattle.repost_laws.proofs.MoreRecords.{Contains-parts}
use Rattle.repost_laws.proofs.TurnCounts.{marked-before}
use Rattle.repost_laws.proofs.Turns.{IsLocal-valued, valuation-unmarked}

one-place-itself : (p : Place) → is_one_place p p ≡ true
one-place-itself p = ap (λ (b : Bool). not b && not b) (is_before-irreflexive p)

other-place : (p q : Place) → p ≢ q → is_one_place p q ≡ false
other-place p q other =
    elim (is_before-total p q) [
      | inl before ↦ ap (λ (b : Bool). not b && not (is_before q p)) before
      | inr h ↦ elim h [
        | inl after ↦ by_cases (is_before p q) after
        | inr same ↦ absurd (other same)
      ]
    ]
  where
    by_cases : (b : Bool) → is_before q p ≡ true → (not b && not (is_before q p)) ≡ false
    by_cases true after = refl
    by_cases false after = ap not after

-- the movement is found to be what it is valued at, and others stay
found_with-at : (charged : Target → ℕ) (line : List Entry) (found : Found) (e : Entry)
    → IsFoundAt found (found_with charged line found e) e.place (valuation charged found line e)
found_with-at charged line found e =
    record {
      own = ap (λ (b : Bool). if b then Some (valuation charged found line e) else found e.place) (one-place-itself e.place);
      others = λ p other. ap (λ (b : Bool). if b then Some (valuation charged found line e) else found p)
          (other-place p e.place other);
    }

-- what stands before a movement comes before it
past-before : (past : List Entry) (e : Entry) (rest : List Entry) (f : Entry) → IsInPostingOrder (past ++ e ∷ rest)
    → Contains past f → IsBefore f e
past-before past e rest f ordered held =
    (Contains-filtered (comes_before e.place) (past ++ e ∷ rest) f
    (subst (λ (es : List Entry). Contains es f) (sym (earlier-is_past past e rest ordered)) held)).1

-- each of the first movements is local
abbrev AreLocalFirst : (Target → ℕ) → List Entry → Found → List Entry → Type 0
AreLocalFirst charged line found past = (e : Entry) → Contains past e → IsLocal charged found line e

local-next : (charged : Target → ℕ) (found : Found) (past : List Entry) (e : Entry) (rest : List Entry)
    → IsInPostingOrder (past ++ e ∷ rest)
    → AreLocalFirst charged (past ++ e ∷ rest) found past → AreLocalFirst charged (past ++ e ∷ rest)
    (found_with charged (past ++ e ∷ rest) found e) (past ++ e ∷ [])
local-next charged found past e rest ordered local f held =
    let line = past ++ e ∷ rest in
    let now = valuation charged found line e in
    let at = found_with-at charged line found e in
    elim (Contains-parts past (e ∷ []) f held) [
      | inr last ↦ elim (Contains-cases e [] f last) [
        | inl same ↦ subst (IsLocal charged (found_with charged line found e) line) same
            (IsLocal-valued charged line found (found_with charged line found e) e at)
        | inr none ↦ absurd (omega (arith, none.1))
      ]
      | inl front ↦
          let before = past-before past e rest f ordered front in
          let apart : f.place ≢ e.place = λ same. never_itself e
          (subst (λ (p : Place). is_before p e.place ≡ true) same before) in
          let unmarked : IsMarked line found e.place now f → ⊥ = λ marked. never_both f e before
          (marked-before line found e.place now f marked) in
          at.others f.place apart ∙ local f front ∙ ap Some (sym
          (valuation-unmarked charged line found (found_with charged line found e) e.place now f at unmarked))
    ]

local-all : (charged : Target → ℕ) (line : List Entry) (found : Found) (past rest : List Entry) → past ++ rest ≡ line
    → IsInPostingOrder line → AreLocalFirst charged line found past
    → AreLocal charged (fold (found_with charged line) found rest) line
local-all charged line found past [] parts ordered local =
    λ e held. local e (subst (λ (es : List Entry). Contains es e) (sym parts ∙ append-nil past) held)
local-all charged line found past (e ∷ rest) parts ordered local =
    let next : AreLocalFirst charged line (found_with charged line found e) (past ++ e ∷ []) =
    subst (λ (es : List Entry). AreLocalFirst charged es found past
    → AreLocalFirst charged es (found_with charged es found e) (past ++ e ∷ [])) parts
    (local-next charged found past e rest (subst IsInPostingOrder (sym parts) ordered)) local in
    local-all charged line (found_with charged line found e) (past ++ e ∷ []) rest
    (append_assoc past (e ∷ []) rest ∙ parts) ordered next

pub AreLocal-in_order : (charged : Target → ℕ) (line : List Entry) → IsInPostingOrder line
    → AreLocal charged (found_in_order charged line) line
AreLocal-in_order charged line ordered = local-all charged line nothing_found [] line refl ordered
    (λ e held. absurd (omega (arith, held.1)))
