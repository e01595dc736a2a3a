-- Worths in order, and one that is put in at its spot.
use Rattle.std.proofs.Common.{◌≡◌, ℕ, zero, suc, ◌<◌, ◌≤◌, Bool, true, false, cond, List, [], ◌∷◌, length, get_or, set as slice_set, insert, inl, inr, refl, ap, subst, arith}
use Rattle.std.specs.List.Sorted.{IsPartitionedBy, IsPartitionPoint}
use Rattle.std.proofs.lemmas.Bool.{cases_lt}
use Rattle.stock_nums.specs.declared.place.Spot.{Spot}
use Rattle.stock_keeper.specs.Worths.{is_spot_before, is_same_spot, IsBefore, AreInOrder, put}
use Rattle.stock_keeper.specs.declared.changes.SpotWorth.{SpotWorth}
use Rattle.stock_keeper.proofs.Pairs.{Precedes, Pairwise, AllPairs-from_Pairwise, Pairwise-from_AllPairs}
use Rattle.stock_keeper.proofs.SpotOrder.{transitive, after-other, same-from_neither, neither-from_test}

-- the worth stands before the spot
abbrev pub comes_before : Spot → SpotWorth → Bool
comes_before spot v = is_spot_before v.spot spot

-- worths in order are parted by each spot
pub parted : (spot : Spot) (vs : List SpotWorth) → AreInOrder vs → IsPartitionedBy (comes_before spot) vs
parted spot vs order i j d le within passes =
    elim (cases_lt i j) [
      | inl less ↦ transitive (get_or vs i d).spot (get_or vs j d).spot spot (order i j d less within) passes
      | inr more ↦ let same : j ≡ i = omega arith in
          subst (λ k. comes_before spot (get_or vs k d) ≡ true) same passes
    ]

-- the index is that of the first worth which does not stand before the spot
abbrev pub IsPoint : Spot → List SpotWorth → ℕ → Type 0
IsPoint spot vs n = IsPartitionPoint (λ v. comes_before spot v ≡ true) (λ v. comes_before spot v ≡ false) vs n

IsPoint-rest : (spot : Spot) (v : SpotWorth) (vs : List SpotWorth) (n : ℕ) → IsPoint spot (v ∷ vs) (suc n) → IsPoint spot vs n
IsPoint-rest spot v vs n point = (
  λ k d l m. point.0 (suc k) d (omega arith) (omega arith),
  λ k d l m. point.1 (suc k) d (omega arith) (omega arith),
)

-- a worth at the spot is replaced
pub put-set : (vs : List SpotWorth) (w : SpotWorth) (n : ℕ) → n < length vs → IsPoint w.spot vs n → is_same_spot (get_or vs n w).spot w.spot ≡ true → slice_set vs n w ≡ put vs w
put-set [] w n within point same = absurd (omega (arith, within))
put-set (v ∷ vs) w zero within point same =
    let neither = neither-from_test v.spot w.spot same in
    rw (neither.0, neither.1) refl
put-set (v ∷ vs) w (suc n) within point same =
    let before : is_spot_before v.spot w.spot ≡ true = point.0 zero w (omega arith) (omega arith) in
    rw before (ap (λ us. v ∷ us) (put-set vs w n (omega (arith, within)) (IsPoint-rest w.spot v vs n point) same))

-- where none is at the spot, it is put in before the first that stands behind
pub put-insert : (vs : List SpotWorth) (w : SpotWorth) (n : ℕ) → n ≤ length vs → IsPoint w.spot vs n → (n < length vs → is_same_spot (get_or vs n w).spot w.spot ≡ false) → insert vs n w ≡ put vs w
put-insert [] w zero within point other = refl
put-insert [] w (suc n) within point other = absurd (omega (arith, within))
put-insert (v ∷ vs) w zero within point other =
    let not_before : is_spot_before v.spot w.spot ≡ false = point.1 zero w (omega arith) (omega arith) in
    let after = after-other v.spot w.spot (other (omega arith)) not_before in
    rw (not_before, after) refl
put-insert (v ∷ vs) w (suc n) within point other =
    let before : is_spot_before v.spot w.spot ≡ true = point.0 zero w (omega arith) (omega arith) in
    rw before (ap (λ us. v ∷ us) (put-insert vs w n (omega (arith, within)) (IsPoint-rest w.spot v vs n point) (λ l. other (omega (arith, l)))))

-- a worth that comes before the first of those in order comes before all
Precedes-along : (w v : SpotWorth) (vs : List SpotWorth) → IsBefore w v → Precedes IsBefore v vs → Precedes IsBefore w vs
Precedes-along w v [] h k = tt
Precedes-along w v (u ∷ us) h k =
    (transitive w.spot v.spot u.spot h k.0, Precedes-along w v us h k.1)

-- so does one at the same spot as the first
Precedes-same : (w v : SpotWorth) (vs : List SpotWorth) → v.spot ≡ w.spot → Precedes IsBefore v vs → Precedes IsBefore w vs
Precedes-same w v [] same k = tt
Precedes-same w v (u ∷ us) same k =
    (subst (λ (s : Spot). is_spot_before s u.spot ≡ true) same k.0, Precedes-same w v us same k.1)

-- what comes before each of some worths and before one more comes before them all
put-Precedes : (x : SpotWorth) (vs : List SpotWorth) (w : SpotWorth) → Precedes IsBefore x vs → IsBefore x w → Precedes IsBefore x (put vs w)
put-Precedes x [] w h r = (r, tt)
put-Precedes x (v ∷ vs) w h r =
    elim (is_spot_before v.spot w.spot) as (λ b. Precedes IsBefore x (cond b (v ∷ put vs w) (cond (is_spot_before w.spot v.spot) (w ∷ v ∷ vs) (w ∷ vs)))) [
      | true ↦ (h.0, put-Precedes x vs w h.1 r)
      | false ↦ elim (is_spot_before w.spot v.spot) as (λ b. Precedes IsBefore x (cond b (w ∷ v ∷ vs) (w ∷ vs))) [
        | true ↦ (r, h)
        | false ↦ (r, h.1)
      ]
    ]

put-Pairwise : (vs : List SpotWorth) (w : SpotWorth) → Pairwise IsBefore vs → Pairwise IsBefore (put vs w)
put-Pairwise [] w h = (tt, tt)
put-Pairwise (v ∷ vs) w h = by_first (is_spot_before v.spot w.spot) refl (put-Pairwise vs w h.1)
  where
    by_second : (b : Bool) → is_spot_before w.spot v.spot ≡ b → is_spot_before v.spot w.spot ≡ false → Pairwise IsBefore (cond b (w ∷ v ∷ vs) (w ∷ vs))
    by_second true is not_before = ((is, Precedes-along w v vs is h.0), h)
    by_second false is not_before =
        (Precedes-same w v vs (same-from_neither v.spot w.spot not_before is) h.0, h.1)

    by_first : (b : Bool) → is_spot_before v.spot w.spot ≡ b → Pairwise IsBefore (put vs w) → Pairwise IsBefore (cond b (v ∷ put vs w) (cond (is_spot_before w.spot v.spot) (w ∷ v ∷ vs) (w ∷ vs)))
    by_first true is rest = (put-Precedes v vs w h.0 is, rest)
    by_first false is rest = by_second (is_spot_before w.spot v.spot) refl is

-- with one put in the worths are in order still
pub AreInOrder-put : (vs : List SpotWorth) (w : SpotWorth) → AreInOrder vs → AreInOrder (put vs w)
AreInOrder-put vs w order =
    AllPairs-from_Pairwise IsBefore (put vs w) (put-Pairwise vs w (Pairwise-from_AllPairs IsBefore vs order))
