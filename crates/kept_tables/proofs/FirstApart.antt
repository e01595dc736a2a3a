-- The first difference of worths that stand in order, step by step.
use Rattle.std.proofs.Common.{◌≡◌, true, false, cond, List, [], ◌∷◌, Option, Some, None, refl, sym, ap, ◌∙◌, subst}
use Rattle.stock_nums.specs.declared.entry.Worth.{Worth}
use Rattle.stock_nums.specs.declared.place.Spot.{Spot}
use Rattle.stock_model.proofs.Pairwise.{Precedes, Each}
use Rattle.stock_keeper.specs.Worths.{is_spot_before, is_same_spot, IsBefore}
use Rattle.stock_keeper.specs.declared.changes.SpotWorth.{SpotWorth}
use Rattle.stock_keeper.proofs.SpotOrder.{same-from_test}
use Rattle.kept_tables.specs.Differences.{worth_at, IsFirstDifference, IsTold}
use Rattle.kept_tables.specs.declared.differing.Difference.{Difference}
use Rattle.kept_tables.proofs.WorthsAt.{fails, worth_at-cons, worth_at-first, worth_at-other, IsBehind, worth_at-none, behind-before, behind-first, all_behind, one_worth}

-- of nothing nothing is told
pub told-nil : IsTold [] [] None
told-nil = record { first = tt; stored = tt; replayed = tt; same = λ is. refl }

-- a stored worth before all that is replayed
pub told-stored : (v : SpotWorth) (vs ws : List SpotWorth) → Precedes IsBefore v vs → Each (IsBehind v.spot) ws
    → IsTold (v ∷ vs) ws (Some (record { spot = v.spot; stored = Some v.worth; replayed = None }))
told-stored v vs ws order behind =
    let at : worth_at (v ∷ vs) v.spot ≡ Some v.worth = worth_at-first v vs in
    let none : worth_at ws v.spot ≡ None = worth_at-none v.spot ws behind in
    record {
      first = record {
        differs = λ alike. let never : Some v.worth ≡ None = sym at ∙ alike ∙ none in cc;
        first = λ s before. worth_at-none s (v ∷ vs) (all_behind s v vs before order)
            ∙ sym (worth_at-none s ws (behind-before s v.spot ws before behind));
      };
      stored = sym at;
      replayed = sym none;
      same = λ is. cc;
    }

-- a replayed worth before all that is stored
pub told-replayed : (w : SpotWorth) (vs ws : List SpotWorth) → Precedes IsBefore w ws → Each (IsBehind w.spot) vs
    → IsTold vs (w ∷ ws) (Some (record { spot = w.spot; stored = None; replayed = Some w.worth }))
told-replayed w vs ws order behind =
    let at : worth_at (w ∷ ws) w.spot ≡ Some w.worth = worth_at-first w ws in
    let none : worth_at vs w.spot ≡ None = worth_at-none w.spot vs behind in
    record {
      first = record {
        differs = λ alike. let never : Some w.worth ≡ None = sym at ∙ sym alike ∙ none in cc;
        first = λ s before. worth_at-none s vs (behind-before s w.spot vs before behind)
            ∙ sym (worth_at-none s (w ∷ ws) (all_behind s w ws before order));
      };
      stored = sym none;
      replayed = sym at;
      same = λ is. cc;
    }

-- two worths at one spot
pub told-changed : (v w : SpotWorth) (vs ws : List SpotWorth) → v.spot ≡ w.spot → (v.worth ≡ w.worth → ⊥)
    → Precedes IsBefore v vs → Precedes IsBefore w ws
    → IsTold (v ∷ vs) (w ∷ ws) (Some (record { spot = v.spot; stored = Some v.worth; replayed = Some w.worth }))
told-changed v w vs ws one other order made_order =
    let at : worth_at (v ∷ vs) v.spot ≡ Some v.worth = worth_at-first v vs in
    let made_at : worth_at (w ∷ ws) v.spot ≡ Some w.worth = ap (worth_at (w ∷ ws)) one ∙ worth_at-first w ws in
    record {
      first = record {
        differs = λ alike. let both : Some v.worth ≡ Some w.worth = sym at ∙ alike ∙ made_at in other cc;
        first = λ s before. worth_at-none s (v ∷ vs) (all_behind s v vs before order)
            ∙ sym (worth_at-none s (w ∷ ws)
            (all_behind s w ws (subst (λ (t : Spot). is_spot_before s t ≡ true) one before) made_order));
      };
      stored = sym at;
      replayed = sym made_at;
      same = λ is. cc;
    }

-- a spot at which what follows one worth differs is another spot
differs-later : (v : SpotWorth) (vs ws : List SpotWorth) (s : Spot) → Precedes IsBefore v vs → Precedes IsBefore v ws
    → IsFirstDifference vs ws s → is_same_spot v.spot s ≡ false
differs-later v vs ws s order made_order first =
    fails (is_same_spot v.spot s) (λ test.
    let at : v.spot ≡ s = same-from_test v.spot s test in
    first.differs (ap (worth_at vs) (sym at) ∙ worth_at-none v.spot vs (behind-first v vs order)
    ∙ sym (worth_at-none v.spot ws (behind-first v ws made_order)) ∙ ap (worth_at ws) at))

-- what is told of the rest is told with one worth before both
told-same : (v : SpotWorth) (vs ws : List SpotWorth) (told : Option Difference) → Precedes IsBefore v vs
    → Precedes IsBefore v ws
    → IsTold vs ws told → IsTold (v ∷ vs) (v ∷ ws) told
told-same v vs ws None order made_order rest =
    record { first = tt; stored = tt; replayed = tt; same = λ is. ap (λ (us : List SpotWorth). v ∷ us) (rest.same is) }
told-same v vs ws (Some d) order made_order rest =
    let other = differs-later v vs ws d.spot order made_order rest.first in
    let at : worth_at (v ∷ vs) d.spot ≡ worth_at vs d.spot = worth_at-other v vs d.spot other in
    let made_at : worth_at (v ∷ ws) d.spot ≡ worth_at ws d.spot = worth_at-other v ws d.spot other in
    record {
      first = record {
        differs = λ alike. rest.first.differs (sym at ∙ alike ∙ made_at);
        first = λ s before. worth_at-cons v vs s
            ∙ ap (λ (o : Option Worth). cond (is_same_spot v.spot s) (Some v.worth) o) (rest.first.first s before)
            ∙ sym (worth_at-cons v ws s);
      };
      stored = rest.stored ∙ sym at;
      replayed = rest.replayed ∙ sym made_at;
      same = λ is. cc;
    }

-- the same where the two first ones are equal
pub told-next : (v w : SpotWorth) (vs ws : List SpotWorth) (told : Option Difference) → v.spot ≡ w.spot → v.worth ≡ w.worth
    → Precedes IsBefore v vs → Precedes IsBefore w ws → IsTold vs ws told → IsTold (v ∷ vs) (w ∷ ws) told
told-next v w vs ws told spots worths order made_order rest =
    let first = one_worth v w spots worths in
    subst (λ (u : SpotWorth). IsTold (v ∷ vs) (u ∷ ws) told) first
    (told-same v vs ws told order (subst (λ (u : SpotWorth). Precedes IsBefore u ws) (sym first) made_order) rest)
