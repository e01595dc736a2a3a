-- What neighbours tell of the order of worths.
use Rattle.std.proofs.Common.{◌≡◌, zero, suc, ◌+◌, Bool, true, false, List, [], ◌∷◌, length, get_or, inl, inr, refl, sym, ◌∙◌, subst, arith}
use Rattle.std.specs.Prelude.{◌↔◌, IsTrue}
use Rattle.std.specs.List.{AllAdjacentBelow, IsAllAdjacentAnswer}
use Rattle.std.proofs.lemmas.Bool.{cases_lt, false≢true}
use Rattle.stock_keeper.specs.Worths.{is_spot_before, IsBefore, AreInOrder}
use Rattle.stock_keeper.specs.declared.changes.SpotWorth.{SpotWorth}
use Rattle.stock_keeper.proofs.SpotOrder.{transitive}

-- worths of which each comes before the next are in order
AreInOrder-from_neighbours : (vs : List SpotWorth) → AllAdjacentBelow IsBefore vs (length vs) → AreInOrder vs
AreInOrder-from_neighbours vs next i zero d l m = absurd (omega (arith, l))
AreInOrder-from_neighbours vs next i (suc j) d l m =
    let after : j + 1 ≡ suc j = omega arith in
    let before : is_spot_before (get_or vs j d).spot (get_or vs (suc j) d).spot ≡ true =
    subst (λ k. is_spot_before (get_or vs j d).spot (get_or vs k d).spot ≡ true) after (next j d (omega (arith, m))) in
    elim (cases_lt i j) [
      | inl less ↦ transitive (get_or vs i d).spot (get_or vs j d).spot (get_or vs (suc j) d).spot (AreInOrder-from_neighbours vs next i j d less (omega (arith, m))) before
      | inr more ↦ let same : j ≡ i = omega (arith, l, more) in
          subst (λ k. is_spot_before (get_or vs k d).spot (get_or vs (suc j) d).spot ≡ true) same before
    ]

-- a test of each worth and the next tells the order
pub order-from_answer : (vs : List SpotWorth) (answer : Bool) → IsAllAdjacentAnswer (λ x y b. b ≡ is_spot_before x.spot y.spot) vs answer → IsTrue answer ↔ AreInOrder vs
order-from_answer vs true next = (λ _. AreInOrder-from_neighbours vs (λ k d l. sym (next k d l)), λ _. refl)
order-from_answer [] false gap = absurd (omega (arith, gap.1))
order-from_answer (v ∷ vs) false gap =
    (λ told. absurd (false≢true told), λ order. gap.2 v ∙ order gap.0 (gap.0 + 1) v (omega arith) (omega (arith, gap.1)))
