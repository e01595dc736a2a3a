-- A turn keeps that what is not suspect is what it is valued at.
use Rattle.std.proofs.Common.{◌≡◌, ◌≢◌, ℕ, Bool, true, false, ◌&&◌, IsTrue, List, [], ◌∷◌, sum_by, unsigned_abs, Option, Some, None, inl, inr, refl, sym, ap, ◌∙◌, subst, arith, Contains, ◌⊎◌}
use Rattle.std.specs.Option.{option_map, option_map_or}
use Rattle.std.proofs.lemmas.Bool.{false≢true}
use Rattle.std.proofs.lemmas.Bool.Decides.{nat_tests, Decides-int_eq}
use Rattle.std.proofs.lemmas.List.Sums.{sum_by-cons}
use Rattle.stock_nums.specs.Places.{is_before}
use Rattle.stock_nums.specs.declared.cause.Method.{Method}
use Rattle.stock_nums.specs.declared.cause.Method.TheVariants.{Fifo, Average}
use Rattle.stock_nums.specs.declared.cause.Target.{Target}
use Rattle.stock_nums.specs.declared.entry.Entry.{Entry}
use Rattle.stock_nums.specs.declared.place.Place.{Place}
use Rattle.stock_nums.proofs.PlaceOrder.{is_before-irreflexive, is_before-total}
use Rattle.stock_model.specs.Enough.{entry_key, entry_units}
use Rattle.stock_model.specs.InOrder.{IsBefore, IsInPostingOrder}
use Rattle.stock_model.proofs.Pairwise.{Pairwise, Precedes-Contains, Pairwise-from_AllPairs, Contains-cases, Contains-first, Contains-later}
use Rattle.stock_model.specs.Values.{own_line}
use Rattle.stock_nums.specs.Part.{part}
use Rattle.cost_links.specs.Sources.{entry_place}
use Rattle.cost_links.specs.Tables.{Held}
use Rattle.repost_laws.specs.Builds.{Suspects, IsBuilt, IsFoundAt, IsTurn}
use Rattle.repost_laws.specs.Pieces.{Piece, piece_value}
use Rattle.repost_laws.specs.Touched.{StartsFrom, TakesFrom, IsMarked, is_same_held, has_same_after, has_same_value, had_after, had_value}
use Rattle.repost_laws.specs.Valuations.{back_by, Valued, Found, empty, no_worth, worth_of, after_of, found_value, earlier, last_of_key, held_then, held_before_by, sources, taken_over, valued_with, valuation, IsLocal}
use Rattle.repost_laws.proofs.Spreading.{spread-before}

-- two places are one, or they are not
pub place-cases : (p q : Place) → (p ≡ q) ⊎ (p ≢ q)
place-cases p q =
    elim (is_before-total p q) [
      | inl before ↦ inr (λ same. false≢true (sym (is_before-irreflexive q)
          ∙ subst (λ (r : Place). is_before r q ≡ true) same before))
      | inr h ↦ elim h [
        | inl after ↦ inr (λ same. false≢true (sym (is_before-irreflexive q)
            ∙ subst (λ (r : Place). is_before q r ≡ true) same after))
        | inr same ↦ inl same
      ]
    ]

pub both-true : (a b : Bool) → (a && b) ≡ true → (a ≡ true) × (b ≡ true)
both-true true b h = (refl, h)
both-true false b h = absurd (false≢true h)

true-from : (b : Bool) → (b ≡ false → ⊥) → b ≡ true
true-from true never = refl
true-from false never = absurd (never refl)

pub false-from : (b : Bool) → (b ≡ true → ⊥) → b ≡ false
false-from true never = absurd (never refl)
false-from false never = refl

same-held : (a b : Held) → is_same_held a b ≡ true → a ≡ b
same-held a b same = grind (arith, nat_tests)

-- where the same was found before, what is held is the same
after-same : (was : Option Valued) (now : Valued) → option_map_or (has_same_after now) was false ≡ true
    → option_map_or after_of was empty ≡ now.after
after-same None now same = absurd (false≢true same)
after-same (Some was) now same = same-held was.after now.after same

-- and what the movement is worth
value-same : (was : Option Valued) (now : Valued) → option_map_or (has_same_value now) was false ≡ true
    → (option_map_or worth_of was no_worth).value.0 ≡ now.worth.value.0
value-same None now same = absurd (false≢true same)
value-same (Some was) now same = (Decides-int_eq was.worth.value.0 now.worth.value.0).0 same

-- sums of the same numbers
pub sum_by-agree : {X : Type 0} (f g : X → ℕ) (xs : List X) → ((x : X) → Contains xs x → f x ≡ g x) → sum_by f xs ≡ sum_by g xs
sum_by-agree f g [] agree = refl
sum_by-agree f g (x ∷ xs) agree =
    omega (
      arith,
      sum_by-cons f x xs,
      sum_by-cons g x xs,
      agree x (Contains-first x xs),
      sum_by-agree f g xs
          (λ y held. agree y (Contains-later x xs y held)),
    )

-- what a movement that is not marked starts from
held-unmarked : (line : List Entry) (found new_found : Found) (place : Place) (now : Valued) (f : Entry) (method : Method)
    → f.method ≡ method → IsFoundAt found new_found place now
    → (IsMarked line found place now f → ⊥) → held_before_by method new_found (earlier line f) f
    ≡ held_before_by method found (earlier line f) f
held-unmarked line found new_found place now f Fifo is at unmarked = refl
held-unmarked line found new_found place now f Average is at unmarked = by_cases (last_of_key (earlier line f) (entry_key f)) refl
  where
    by_cases : (o : Option Entry) → last_of_key (earlier line f) (entry_key f) ≡ o → held_then new_found o ≡ held_then found o
    by_cases None last = refl
    by_cases (Some g) last = elim (place-cases g.place place) [
      | inr other ↦ ap (λ (v : Option Valued). option_map_or after_of v empty) (at.others g.place other)
      | inl same ↦
          let starts : StartsFrom line place f = (is, ap (option_map entry_place) last ∙ ap Some same) in
          let kept = both-true (had_after found place now) (had_value found place now)
          (true-from (had_after found place now && had_value found place now) (λ changed. unmarked (inl (starts, changed)))) in
          ap (λ (p : Place). option_map_or after_of (new_found p) empty) same
          ∙ ap (λ (v : Option Valued). option_map_or after_of v empty) at.own
          ∙ sym (ap (λ (p : Place). option_map_or after_of (found p) empty) same ∙ after-same (found place) now kept.0)
    ]

-- and what it takes over
taken-unmarked : (line : List Entry) (found new_found : Found) (place : Place) (now : Valued) (f : Entry)
    → IsFoundAt found new_found place now → (IsMarked line found place now f → ⊥)
    → taken_over new_found (sources (earlier line f) f) ≡ taken_over found (sources (earlier line f) f)
taken-unmarked line found new_found place now f at unmarked =
    sum_by-agree (piece_value entry_units (found_value new_found)) (piece_value entry_units (found_value found))
    (sources (earlier line f) f)
    (λ piece held. ap (λ (n : ℕ). part n piece.before piece.among (entry_units piece.giver)) (one piece held))
  where
    one : (piece : Piece Entry) → Contains (sources (earlier line f) f) piece → found_value new_found piece.giver
        ≡ found_value found piece.giver
    one piece held =
        let worth : Option Valued → ℕ = λ v. unsigned_abs (option_map_or worth_of v no_worth).value.0 in
        elim (place-cases piece.giver.place place) [
          | inr other ↦ ap worth (at.others piece.giver.place other)
          | inl same ↦
              let takes : TakesFrom line place f = (piece, held, same) in
              let kept = true-from (had_value found place now) (λ changed. unmarked (inr (takes, changed))) in
              ap (λ (p : Place). worth (new_found p)) same ∙ ap worth at.own
              ∙ sym (ap (λ (p : Place). worth (found p)) same ∙ ap unsigned_abs (value-same (found place) now kept))
        ]

-- so its value stays
pub valuation-unmarked : (charged : Target → ℕ) (line : List Entry) (found new_found : Found) (place : Place) (now : Valued)
    (f : Entry) → IsFoundAt found new_found place now
    → (IsMarked line found place now f → ⊥) → valuation charged new_found line f ≡ valuation charged found line f
valuation-unmarked charged line found new_found place now f at unmarked =
    let past = earlier line f in
    let of : Held → ℕ → Valued = λ h l. valued_with (record {
      charged = charged
          (own_line f);
      back = back_by past f.cause;
      held = h;
      linked = l;
    }) f in
    ap (λ (h : Held). of h (taken_over new_found (sources past f)))
    (held-unmarked line found new_found place now f f.method refl at unmarked)
    ∙ ap (of (held_before_by f.method found past f)) (taken-unmarked line found new_found place now f at unmarked)

-- a movement never marks itself
never_marked_itself : (line : List Entry) (found : Found) (now : Valued) (e : Entry) → IsMarked line found e.place now e → ⊥
never_marked_itself line found now e (inl (starts, changed)) = false≢true
    (sym (is_before-irreflexive e.place) ∙ spread-before line e.place e (inl starts))
never_marked_itself line found now e (inr (takes, changed)) = false≢true
    (sym (is_before-irreflexive e.place) ∙ spread-before line e.place e (inr takes))

-- the movement that is valued is what it is valued at
pub IsLocal-valued : (charged : Target → ℕ) (line : List Entry) (found new_found : Found) (e : Entry)
    → IsFoundAt found new_found e.place (valuation charged found line e) → IsLocal charged new_found line e
IsLocal-valued charged line found new_found e at =
    at.own ∙ ap Some (sym (valuation-unmarked charged line found new_found e.place (valuation charged found line e) e at
    (never_marked_itself line found (valuation charged found line e) e)))

-- in a line in order no two movements have one place
pub one_place : (line : List Entry) (e f : Entry) → Pairwise IsBefore line → Contains line e → Contains line f → f.place ≡ e.place
    → f ≡ e
one_place [] e f ordered held other same = absurd (omega (arith, held.1))
one_place (g ∷ line) e f ordered held other same =
    let never : (a b : Entry) → IsBefore a b → a.place ≡ b.place → ⊥ =
    λ a b before one. false≢true (sym (is_before-irreflexive b.place)
    ∙ subst (λ (p : Place). is_before p b.place ≡ true) one before) in
    elim (Contains-cases g line e held) [
      | inl first ↦ elim (Contains-cases g line f other) [
        | inl too ↦ sym too ∙ first
        | inr later ↦ absurd (never e f (subst (λ (a : Entry). IsBefore a f) first
            (Precedes-Contains IsBefore g line f ordered.0 later)) (sym same))
      ]
      | inr later ↦ elim (Contains-cases g line f other) [
        | inl first ↦ absurd (never f e (subst (λ (a : Entry). IsBefore a e) first
            (Precedes-Contains IsBefore g line e ordered.0 later)) same)
        | inr too ↦ one_place line e f ordered.1 later too same
      ]
    ]

pub IsBuilt-turn : (charged : Target → ℕ) (line : List Entry) (found : Found) (suspects : Suspects) (e : Entry)
    (new_found : Found) (new_suspects : Suspects) → IsInPostingOrder line
    → IsTurn charged line found suspects e new_found new_suspects → IsBuilt charged line found suspects
    → IsBuilt charged line new_found new_suspects
IsBuilt-turn charged line found suspects e new_found new_suspects ordered turn built f held clear =
    let now = valuation charged found line e in
    let never : IsTrue (new_suspects f.place) → ⊥ = λ is. false≢true (sym clear ∙ is) in
    elim (place-cases f.place e.place) [
      | inl same ↦
          let one : f ≡ e = one_place line e f (Pairwise-from_AllPairs IsBefore line ordered) turn.first.held held same in
          subst (IsLocal charged new_found line) (sym one) (IsLocal-valued charged line found new_found e turn.valued)
      | inr other ↦
          let unmarked : IsMarked line found e.place now f → ⊥ = λ marked. never ((turn.marked f held).1 (inr marked)) in
          let free : suspects f.place ≡ false = false-from (suspects f.place)
          (λ is. never ((turn.marked f held).1 (inl (is, other)))) in
          turn.valued.others f.place other ∙ built f held free
          ∙ ap Some (sym (valuation-unmarked charged line found new_found e.place now f turn.valued unmarked))
    ]
