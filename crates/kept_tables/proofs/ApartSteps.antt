-- The first difference of worths from an index on.
use Rattle.std.proofs.Common.{◌≡◌, ℕ, zero, suc, ◌+◌, ◌<◌, ◌≤◌, pos, true, List, [], ◌∷◌, length, get_or, drop, Option, Some, None, sym, ap, ◌∙◌, subst}
use Rattle.std.proofs.lemmas.List.{drop_more, drop_all, get_or_default}
use Rattle.stock_nums.specs.declared.place.Side.TheVariants.{Leaves}
use Rattle.stock_model.proofs.Pairwise.{Precedes, Pairwise, Each, Pairwise-from_AllPairs}
use Rattle.stock_keeper.specs.Worths.{is_spot_before, IsBefore, AreInOrder}
use Rattle.stock_keeper.specs.declared.changes.SpotWorth.{SpotWorth}
use Rattle.kept_tables.specs.Differences.{IsTold}
use Rattle.kept_tables.specs.declared.differing.Difference.{Difference}
use Rattle.kept_tables.proofs.FirstApart.{told-stored, told-replayed, told-changed, told-next, told-nil}
use Rattle.kept_tables.proofs.WorthsAt.{IsBehind, all_behind}

-- the worth stands at this index of worths that are in order
pub record StandsAt (ws : List SpotWorth) (i : ℕ) (w : SpotWorth) : Type 0 where
  pub order : AreInOrder ws
  pub within : i < length ws
  pub is : w ≡ get_or ws i w

-- what a read past the end gives
abbrev pub blank : SpotWorth
blank =
    record {
      spot = record { voucher = record { 0 = 0 }; line = 0; side = Leaves };
      worth = record { value = record { 0 = pos 0 }; share = record { 0 = pos 0 } };
    }

pub stands : (ws : List SpotWorth) (i : ℕ) → AreInOrder ws → i < length ws → StandsAt ws i (get_or ws i blank)
stands ws i order within = record { order = order; within = within; is = get_or_default ws i blank (get_or ws i blank) within }

-- the worths from the index on
from_index : (ws : List SpotWorth) (i : ℕ) (w : SpotWorth) → StandsAt ws i w → drop i ws ≡ w ∷ drop (i + 1) ws
from_index ws i w at = drop_more ws i w at.within ∙ ap (λ (v : SpotWorth). v ∷ drop (i + 1) ws) (sym at.is)

Pairwise-drop : (n : ℕ) (ws : List SpotWorth) → Pairwise IsBefore ws → Pairwise IsBefore (drop n ws)
Pairwise-drop zero ws order = order
Pairwise-drop (suc n) [] order = tt
Pairwise-drop (suc n) (w ∷ ws) order = Pairwise-drop n ws order.1

-- stand behind it
later_ones : (ws : List SpotWorth) (i : ℕ) (w : SpotWorth) → StandsAt ws i w → Precedes IsBefore w (drop (i + 1) ws)
later_ones ws i w at =
    (subst (Pairwise IsBefore) (from_index ws i w at) (Pairwise-drop i ws (Pairwise-from_AllPairs IsBefore ws at.order))).0

-- all from the index on stand behind what comes before the first of them, or there are none
behind_from : (v : SpotWorth) (ws : List SpotWorth) (i : ℕ) (w : SpotWorth) → StandsAt ws i w
    → is_spot_before v.spot w.spot ≡ true
    → Each (IsBehind v.spot) (drop i ws)
behind_from v ws i w at before =
    subst (Each (IsBehind v.spot)) (sym (from_index ws i w at)) (all_behind v.spot w (drop (i + 1) ws) before (later_ones ws i w at))

behind_end : (v : SpotWorth) (ws : List SpotWorth) (i : ℕ) → length ws ≤ i → Each (IsBehind v.spot) (drop i ws)
behind_end v ws i past = subst (Each (IsBehind v.spot)) (sym (drop_all i ws past)) tt

stored_behind : (vs ws : List SpotWorth) (i : ℕ) (v : SpotWorth) → StandsAt vs i v → Each (IsBehind v.spot) (drop i ws)
    → IsTold (drop i vs) (drop i ws) (Some (record { spot = v.spot; stored = Some v.worth; replayed = None }))
stored_behind vs ws i v at behind =
    subst (λ (us : List SpotWorth). IsTold us (drop i ws) (Some (record { spot = v.spot; stored = Some v.worth; replayed = None })))
    (sym (from_index vs i v at)) (told-stored v (drop (i + 1) vs) (drop i ws) (later_ones vs i v at) behind)

replayed_behind : (vs ws : List SpotWorth) (i : ℕ) (w : SpotWorth) → StandsAt ws i w → Each (IsBehind w.spot) (drop i vs)
    → IsTold (drop i vs) (drop i ws) (Some (record { spot = w.spot; stored = None; replayed = Some w.worth }))
replayed_behind vs ws i w at behind =
    subst (λ (us : List SpotWorth). IsTold (drop i vs) us (Some (record { spot = w.spot; stored = None; replayed = Some w.worth })))
    (sym (from_index ws i w at)) (told-replayed w (drop i vs) (drop (i + 1) ws) (later_ones ws i w at) behind)

-- a stored worth comes first, or is left alone
pub stored_first : (vs ws : List SpotWorth) (i : ℕ) (v w : SpotWorth) → StandsAt vs i v → StandsAt ws i w
    → is_spot_before v.spot w.spot ≡ true
    → IsTold (drop i vs) (drop i ws) (Some (record { spot = v.spot; stored = Some v.worth; replayed = None }))
stored_first vs ws i v w at made_at before = stored_behind vs ws i v at (behind_from v ws i w made_at before)

pub stored_left : (vs ws : List SpotWorth) (i : ℕ) (v : SpotWorth) → StandsAt vs i v → length ws ≤ i
    → IsTold (drop i vs) (drop i ws) (Some (record { spot = v.spot; stored = Some v.worth; replayed = None }))
stored_left vs ws i v at past = stored_behind vs ws i v at (behind_end v ws i past)

-- a replayed one does
pub replayed_first : (vs ws : List SpotWorth) (i : ℕ) (v w : SpotWorth) → StandsAt vs i v → StandsAt ws i w
    → is_spot_before w.spot v.spot ≡ true
    → IsTold (drop i vs) (drop i ws) (Some (record { spot = w.spot; stored = None; replayed = Some w.worth }))
replayed_first vs ws i v w at made_at before = replayed_behind vs ws i w made_at (behind_from w vs i v at before)

pub replayed_left : (vs ws : List SpotWorth) (i : ℕ) (w : SpotWorth) → StandsAt ws i w → length vs ≤ i
    → IsTold (drop i vs) (drop i ws) (Some (record { spot = w.spot; stored = None; replayed = Some w.worth }))
replayed_left vs ws i w at past = replayed_behind vs ws i w at (behind_end w vs i past)

-- two of one spot differ, or are the same
pub changed_here : (vs ws : List SpotWorth) (i : ℕ) (v w : SpotWorth) → StandsAt vs i v → StandsAt ws i w
    → v.spot ≡ w.spot → (v.worth ≡ w.worth → ⊥)
    → IsTold (drop i vs) (drop i ws) (Some (record { spot = v.spot; stored = Some v.worth; replayed = Some w.worth }))
changed_here vs ws i v w at made_at one other =
    let told : Option Difference = Some (record { spot = v.spot; stored = Some v.worth; replayed = Some w.worth }) in
    subst (λ (us : List SpotWorth). IsTold us (drop i ws) told) (sym (from_index vs i v at))
    (subst (λ (us : List SpotWorth). IsTold (v ∷ drop (i + 1) vs) us told) (sym (from_index ws i w made_at))
    (told-changed v w (drop (i + 1) vs) (drop (i + 1) ws) one other (later_ones vs i v at) (later_ones ws i w made_at)))

pub same_here : (vs ws : List SpotWorth) (i : ℕ) (v w : SpotWorth) (told : Option Difference) → StandsAt vs i v
    → StandsAt ws i w
    → v.spot ≡ w.spot → v.worth ≡ w.worth → IsTold (drop (i + 1) vs) (drop (i + 1) ws) told
    → IsTold (drop i vs) (drop i ws) told
same_here vs ws i v w told at made_at spots worths rest =
    subst (λ (us : List SpotWorth). IsTold us (drop i ws) told) (sym (from_index vs i v at))
    (subst (λ (us : List SpotWorth). IsTold (v ∷ drop (i + 1) vs) us told) (sym (from_index ws i w made_at))
    (told-next v w (drop (i + 1) vs) (drop (i + 1) ws) told spots worths (later_ones vs i v at) (later_ones ws i w made_at) rest))

-- nothing is left of either
pub none_left : (vs ws : List SpotWorth) (i : ℕ) → length vs ≤ i → length ws ≤ i → IsTold (drop i vs) (drop i ws) None
none_left vs ws i past made_past =
    subst (λ (us : List SpotWorth). IsTold us (drop i ws) None) (sym (drop_all i vs past))
    (subst (λ (us : List SpotWorth). IsTold [] us None) (sym (drop_all i ws made_past)) told-nil)
