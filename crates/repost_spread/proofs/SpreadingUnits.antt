-- Which movements leave with some units, as far as a walk over those units came, and so which take units of another.
use Rattle.std.proofs.Common.{◌≡◌, ℕ, ◌+◌, ◌^◌, ◌<◌, ◌≤◌, Bool, true, not, List, [], ◌∷◌, length, filter, sum_by, Contains, ◌⊎◌, inl, inr, sym, ap, ◌∙◌, subst, arith}
use Rattle.std.proofs.lemmas.Bool.{cases_lt, not-true}
use Rattle.std.proofs.lemmas.List.Sums.{sum_by-cons}
use Rattle.stock_nums.specs.Causes.{is_entering}
use Rattle.stock_nums.specs.contracts.place.Side.{the_type as side_type}
use Rattle.stock_nums.specs.declared.cause.Method.TheVariants.{Fifo}
use Rattle.stock_nums.specs.declared.entry.Entry.{Entry}
use Rattle.stock_nums.specs.declared.entry.Key.{Key}
use Rattle.stock_nums.specs.declared.place.Side.{Side}
use Rattle.stock_nums.specs.declared.place.Side.TheVariants.{Leaves, Enters}
use denote.Enum.Bare.{sameb}
use Rattle.stock_model.specs.Enough.{entry_key, entry_units, is_of_key, leaves_under, departed}
use Rattle.stock_model.specs.InOrder.{IsBefore, IsInPostingOrder}
use Rattle.stock_model.proofs.Pairwise.{Pairwise, Precedes-Contains, Contains-cases}
use Rattle.stock_laws.proofs.CostedRows.{both}
use Rattle.stock_laws.proofs.Enough.{is_same_key-true, is_same_key-refl}
use Rattle.cost_links.specs.Sources.{comes_before}
use Rattle.layer_ranges.specs.declared.layer.Layer.{Layer}
use Rattle.repost_index.specs.Layers.{IsLayerOut}
use Rattle.repost_index.proofs.UnitsAhead.{side-ordered, ahead-out, unit-once, out-range}
use Rattle.repost_laws.specs.Fetches.{HaveOneMethod}
use Rattle.repost_laws.specs.Looks.{TakesUnits}
use Rattle.repost_laws.specs.Ranges.{units_in_before, units_out_before}
use Rattle.repost_laws.proofs.Filtered.{Contains-filter}
use Rattle.repost_laws.proofs.RangePieces.{units_ahead, ahead-first, ahead-later}
use Rattle.repost_laws.proofs.Turns.{both-true}
use Rattle.repost_spread.specs.Marks.{AreMarked}
use Rattle.repost_spread.specs.Movements.{line_of}
use Rattle.repost_spread.specs.Spreads.{LeavesWithin}
use Rattle.repost_spread.specs.declared.movements.Movements.{Movements}
use Rattle.repost_spread.proofs.TakingUnits.{units-few}
use Rattle.repost_spread.proofs.TouchingLines.{one-at}
use Rattle.repost_spread.proofs.TouchingMarks.{marked-as, marked-then}

-- a movement that left has few units
pub layer-few_out : (line : List Entry) (key : Key) (unit : ℕ) (layer : Layer) → IsLayerOut line key unit layer
    → layer.qty.0 ≤ 1_000_000_000
layer-few_out line key unit layer out = omega (arith, out.qty, out.taker.quantity.1)

-- and its numbers are small
pub layer-begin_out : (line : List Entry) (key : Key) (unit : ℕ) (layer : Layer) → length line ≤ 2 ^ 20
    → IsLayerOut line key unit layer → layer.begin.0 ≤ 1_048_576_000_000_000
layer-begin_out line key unit layer few out =
    let g = out.taker in
    omega (arith, out.begin, units-few (leaves_under (entry_key g)) (comes_before g.place) line few)

-- the units of a movement are among all
ahead-all : (es : List Entry) (g : Entry) → Pairwise IsBefore es → Contains es g
    → units_ahead es g + entry_units g ≤ sum_by entry_units es
ahead-all [] g ordered held = absurd (omega (arith, held.1))
ahead-all (y ∷ es) g ordered held =
    elim (Contains-cases y es g held) [
      | inl same ↦
          let none : units_ahead (y ∷ es) g ≡ 0 = ap (units_ahead (y ∷ es)) (sym same) ∙ ahead-first y es ordered.0 in
          omega (arith, none, ap entry_units same, sum_by-cons entry_units y es)
      | inr later ↦
          let more = ahead-later y es g (Precedes-Contains IsBefore y es g ordered.0 later) in
          omega (arith, more, ahead-all es g ordered.1 later, sum_by-cons entry_units y es)
    ]

departed-all : (line : List Entry) (key : Key) (f : Entry) → IsInPostingOrder line → Contains line f → leaves_under key f ≡ true
    → units_out_before line f + f.qty.0 ≤ departed line key
departed-all line key f in_order held leaves =
    omega (
      arith,
      ahead-out line key f leaves,
      ahead-all (filter (leaves_under key) line) f (side-ordered (leaves_under key) line in_order)
          (Contains-filter (leaves_under key) line f held leaves),
    )

-- the movement leaves so, with a unit below the one that the walk came to
pub record IsReached (line : List Entry) (key : Key) (from until unit : ℕ) (f : Entry) : Type 0 where
  pub within : LeavesWithin line key from until f
  pub below : within.unit < unit

-- the walk begins
pub none-reached : (line : List Entry) (key : Key) (from until : ℕ) (f : Entry) → IsReached line key from until from f → ⊥
none-reached line key from until f is = omega (arith, is.within.within_from, is.below)

-- it ends with the last unit
pub all-reached : (line : List Entry) (key : Key) (from until unit : ℕ) (f : Entry) → until ≤ unit
    → LeavesWithin line key from until f → IsReached line key from until unit f
all-reached line key from until unit f past is = record { within = is; below = omega (arith, past, is.within_until) }

-- or where no more units left
pub rest-reached : (line : List Entry) (key : Key) (from until unit : ℕ) (f : Entry) → IsInPostingOrder line → Contains line f
    → departed line key ≤ unit → LeavesWithin line key from until f → IsReached line key from until unit f
rest-reached line key from until unit f in_order held past is =
    record { within = is; below = omega (arith, past, is.ends_later, departed-all line key f in_order held is.leaves) }

-- a step of it, over all units of the movement with which one left
module _ (line : List Entry) (key : Key) (from until unit : ℕ) (layer : Layer) (in_order : IsInPostingOrder line)
    (out : IsLayerOut line key unit layer) (begun : from ≤ unit) (more : unit < until) where
  -- until which number its units go
  abbrev end : ℕ
  end = layer.begin.0 + layer.qty.0

  -- what else leaves with them is that movement
  reached-more : (f : Entry) → Contains line f → IsReached line key from until end f
      → IsReached line key from until unit f ⊎ (f.place ≡ layer.place)
  reached-more f held is =
      let within = is.within in
      elim (cases_lt within.unit unit) [
        | inl below ↦ inl (record { within = within; below = below })
        | inr later ↦
            let its = out-range line key within.unit out.taker out.held out.leaves (omega (arith, out.begin, out.begun, later))
            (omega (arith, out.begin, out.qty, is.below)) in
            let own = out-range line key within.unit f held within.leaves within.begun within.ends_later in
            let same = unit-once (filter (leaves_under key) line) within.unit f out.taker
            (side-ordered (leaves_under key) line in_order) own its in
            inr (ap (λ (g : Entry). g.place) same ∙ out.place)
      ]

  more-reached : (f : Entry) → Contains line f → IsReached line key from until unit f ⊎ (f.place ≡ layer.place)
      → IsReached line key from until end f
  more-reached f held (inl before) =
      record { within = before.within; below = omega (arith, before.below, out.ends_later) }
  more-reached f held (inr at) =
      let same = one-at line out.taker f in_order out.held held (at ∙ sym out.place) in
      subst (IsReached line key from until end) (sym same) (record {
        within = record {
          leaves = out.leaves;
          unit = unit;
          within_from = begun;
          within_until = more;
          begun = omega (arith, out.begin, out.begun);
          ends_later = omega (arith, out.begin, out.qty, out.ends_later);
        };
        below = out.ends_later;
      })

  pub step-reached : (old mid new : Movements) → line_of old ≡ line → AreMarked old mid (IsReached line key from until unit)
      → AreMarked mid new (λ f. f.place ≡ layer.place) → AreMarked old new (IsReached line key from until end)
  step-reached old mid new same were are =
      marked-as old new (λ f. IsReached line key from until unit f ⊎ (f.place ≡ layer.place)) (IsReached line key from until end)
      (λ f held either. more-reached f (subst (λ (l : List Entry). Contains l f) same held) either)
      (λ f held is. reached-more f (subst (λ (l : List Entry). Contains l f) same held) is)
      (marked-then old mid new (IsReached line key from until unit) (λ f. f.place ≡ layer.place) were are)

-- how a comparison with a side ends
pub is-entering : (s : Side) (b : Bool) → b ≡ sameb side_type s Enters → is_entering s ≡ b
is-entering Leaves b is = sym is
is-entering Enters b is = sym is

-- what takes units of a movement needs that it entered, and that its item is costed first in, first out
pub takes-needs : (line : List Entry) (e f : Entry) → HaveOneMethod line → Contains line e → Contains line f → TakesUnits line e f
    → (e.method ≡ Fifo) × (is_entering e.place.side ≡ true)
takes-needs line e f one_method held other takes =
    let parts = both-true (is_of_key (entry_key f) e) (is_entering e.place.side) takes.2.enters in
    (one_method e f held other (is_same_key-true (entry_key e) (entry_key f) parts.0) ∙ takes.0, parts.1)

-- what takes units of a movement leaves with units that have the numbers of those that it brought
module _ (line : List Entry) (e : Entry) (key : Key) (from until : ℕ) (own : key ≡ entry_key e) (begins : from ≡ units_in_before line e)
    (ends : until ≡ from + e.qty.0) (held : Contains line e) (one_method : HaveOneMethod line) where
  pub within-takes : (f : Entry) → Contains line f → e.method ≡ Fifo → is_entering e.place.side ≡ true
      → LeavesWithin line key from until f → TakesUnits line e f
  within-takes f other method enters is =
      let parts = both-true (is_of_key key f) (not (is_entering f.place.side)) is.leaves in
      let same : entry_key f ≡ entry_key e = is_same_key-true (entry_key f) key parts.0 ∙ own in (
        one_method f e other held same ∙ method,
        not-true (is_entering f.place.side) parts.1,
        record {
          enters = both (subst (λ (k : Key). is_of_key k e ≡ true) (sym same) (is_same_key-refl (entry_key e))) enters;
          begins = omega (arith, begins, is.within_from, is.ends_later);
          ends = omega (arith, begins, ends, is.within_until, is.begun);
        },
      )

  pub takes-within : (f : Entry) → Contains line f → TakesUnits line e f → LeavesWithin line key from until f
  takes-within f other takes =
      let meet = takes.2 in
      let parts = both-true (is_of_key (entry_key f) e) (is_entering e.place.side) meet.enters in
      let same : entry_key f ≡ key = sym (is_same_key-true (entry_key e) (entry_key f) parts.0) ∙ sym own in
      let leaves : leaves_under key f ≡ true = both
      (subst (λ (k : Key). is_of_key k f ≡ true) same (is_same_key-refl (entry_key f)))
      (ap not takes.1) in
      elim (cases_lt from (units_out_before line f)) [
        | inl later ↦ record {
          leaves = leaves;
          unit = units_out_before line f;
          within_from = omega (arith, later);
          within_until = omega (arith, begins, ends, meet.ends);
          begun = omega arith;
          ends_later = omega (arith, f.quantity.0);
        }
        | inr before ↦ record {
          leaves = leaves;
          unit = from;
          within_from = omega arith;
          within_until = omega (arith, ends, e.quantity.0);
          begun = before;
          ends_later = omega (arith, begins, meet.begins);
        }
      ]
