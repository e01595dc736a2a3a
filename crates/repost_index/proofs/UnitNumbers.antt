-- The units of a line's movements by their numbers, found among changes that count units as leaving.
use Rattle.std.proofs.Common.{◌≡◌, ℕ, zero, suc, ◌+◌, pos, neg_ℤ, unsigned_abs, Bool, true, false, cond, nat_lt, List, [], ◌∷◌, map, filter, sum_by, Option, Some, None, is_some, IfSome, Contains, ◌⊎◌, inl, inr, refl, sym, ap, ◌∙◌, arith}
use Rattle.std.proofs.lemmas.Bool.{false≢true}
use Rattle.std.proofs.lemmas.List.Sums.{sum_by-cons}
use Rattle.stock_nums.specs.Places.{is_before}
use Rattle.stock_nums.specs.declared.entry.Entry.{Entry}
use Rattle.stock_nums.specs.declared.entry.Key.{Key}
use Rattle.stock_nums.specs.declared.place.Place.{Place}
use Rattle.stock_model.specs.Enough.{enters_under, leaves_under, entry_units}
use Rattle.stock_model.specs.InOrder.{IsBefore, IsInPostingOrder}
use Rattle.stock_model.proofs.Pairwise.{Precedes, Pairwise, Precedes-Contains, Contains-first, Contains-later}
use Rattle.key_order.specs.Changes.{of_key, leaving_change}
use Rattle.key_order.specs.declared.change.Change.{Change}
use Rattle.layer_ranges.specs.Layers.{moved_units, layer_of, layer_from, layer_at, units_of_key, units_before, HoldsUnit}
use Rattle.layer_ranges.specs.declared.layer.Layer.{Layer}
use Rattle.cost_links.specs.Sources.{comes_before}
use Rattle.repost_laws.proofs.Filtered.{filter-swap, Contains-filtered}
use Rattle.repost_laws.proofs.RangePieces.{units_ahead, ahead-first, ahead-later}
use Rattle.repost_index.specs.Layers.{IsLayerIn, IsLayerOut}
use Rattle.repost_index.proofs.UnitsAhead.{side-ordered, ahead-in, ahead-out}

-- a number of units that leave is that number
leaving-number : (n : ℕ) → unsigned_abs (neg_ℤ (pos n)) ≡ n
leaving-number zero = refl
leaving-number (suc n) = refl

-- the units of a change are those of its movement
moved-units : (e : Entry) → moved_units (leaving_change e) ≡ entry_units e
moved-units e = leaving-number e.qty.0

pub sum_by-moved : (es : List Entry) → sum_by moved_units (map leaving_change es) ≡ sum_by entry_units es
sum_by-moved [] = refl
sum_by-moved (e ∷ es) =
    omega (
      arith,
      sum_by-cons moved_units (leaving_change e) (map leaving_change es),
      sum_by-cons entry_units e es,
      moved-units e,
      sum_by-moved es,
    )

-- the changes before a place are those of the movements before it
filter-before : (place : Place) (es : List Entry) → filter (λ c. is_before c.place place) (map leaving_change es)
    ≡ map leaving_change (filter (comes_before place) es)
filter-before place [] = refl
filter-before place (e ∷ es) =
    elim (is_before e.place place) as (λ b. cond b (leaving_change e ∷ filter (λ c. is_before c.place place) (map leaving_change es))
    (filter (λ c. is_before c.place place) (map leaving_change es))
    ≡ map leaving_change (cond b (e ∷ filter (comes_before place) es) (filter (comes_before place) es))) [
      | true ↦ ap (λ (cs : List Change). leaving_change e ∷ cs) (filter-before place es)
      | false ↦ filter-before place es
    ]

-- the changes of a key are those of the movements that pass a test
abbrev pub AreOfThose : (Entry → Bool) → List Entry → Key → List Change → Type 0
AreOfThose test line key cs = of_key key cs ≡ map leaving_change (filter test line)

-- how many units these have before a place
pub units_before-those : (test : Entry → Bool) (line : List Entry) (key : Key) (cs : List Change) (place : Place)
    → AreOfThose test line key cs → units_before cs key place ≡ sum_by entry_units (filter test (filter (comes_before place) line))
units_before-those test line key cs place are =
    ap (λ (ds : List Change). sum_by moved_units (filter (λ (c : Change). is_before c.place place) ds)) are
    ∙ ap (sum_by moved_units) (filter-before place (filter test line))
    ∙ sum_by-moved (filter (comes_before place) (filter test line))
    ∙ ap (sum_by entry_units) (filter-swap (comes_before place) test line)

-- and how many in all
pub units_of_key-those : (test : Entry → Bool) (line : List Entry) (key : Key) (cs : List Change) → AreOfThose test line key cs
    → units_of_key cs key ≡ sum_by entry_units (filter test line)
units_of_key-those test line key cs are = ap (sum_by moved_units) are ∙ sum_by-moved (filter test line)

-- the layer has the units of one of the movements, where so many came before them all
record IsLayerAmong (es : List Entry) (before : ℕ) (layer : Layer) : Type 0 where
  mover : Entry
  held : Contains es mover
  place : mover.place ≡ layer.place
  qty : mover.qty.0 ≡ layer.qty.0
  begin : before + units_ahead es mover ≡ layer.begin.0

-- the units are those of the first change, or of a later one
layer_from-cases : (c : Change) (cs : List Change) (before unit : ℕ) (layer : Layer)
    → layer_from (c ∷ cs) before unit ≡ Some layer
    → (layer_of before c ≡ layer) ⊎ (layer_from cs (before + moved_units c) unit ≡ Some layer)
layer_from-cases c cs before unit layer found =
    by_cases (nat_lt unit (before + moved_units c)) (layer_of before c) (layer_from cs (before + moved_units c) unit) found
  where
    by_cases : (b : Bool) (own : Layer) (rest : Option Layer) → cond b (Some own) rest ≡ Some layer
        → (own ≡ layer) ⊎ (rest ≡ Some layer)
    by_cases true own rest h = inl cc
    by_cases false own rest h = inr h

among-later : (e : Entry) (es : List Entry) (before moved : ℕ) (layer : Layer) → Precedes IsBefore e es → moved ≡ entry_units e
    → IsLayerAmong es (before + moved) layer → IsLayerAmong (e ∷ es) before layer
among-later e es before moved layer after own later =
    let ahead = ahead-later e es later.mover (Precedes-Contains IsBefore e es later.mover after later.held) in
    record {
      mover = later.mover;
      held = Contains-later e es later.mover later.held;
      place = later.place;
      qty = later.qty;
      begin = omega (arith, later.begin, own, ahead);
    }

-- nothing is not something
none-some : (layer : Layer) → None ≡ Some layer → ⊥
none-some layer found = false≢true (ap is_some found)

-- of changes that have the place and the units of each movement
module _ (change : Entry → Change) (at : (e : Entry) → e.place ≡ (change e).place)
    (of : (e : Entry) → moved_units (change e) ≡ entry_units e) where
  among-first : (e : Entry) (es : List Entry) (before : ℕ) (layer : Layer) → Precedes IsBefore e es
      → layer_of before (change e) ≡ layer → IsLayerAmong (e ∷ es) before layer
  among-first e es before layer after same =
      let begin : before ≡ layer.begin.0 = ap (λ (l : Layer). l.begin.0) same in
      record {
        mover = e;
        held = Contains-first e es;
        place = at e ∙ ap (λ (l : Layer). l.place) same;
        qty = sym (of e) ∙ ap (λ (l : Layer). l.qty.0) same;
        begin = omega (arith, ahead-first e es after, begin);
      }

  among-either : (e : Entry) (es : List Entry) (before unit : ℕ) (layer : Layer) → Precedes IsBefore e es
      → (layer_of before (change e) ≡ layer) ⊎ (layer_from (map change es) (before + moved_units (change e)) unit ≡ Some layer)
      → (layer_from (map change es) (before + moved_units (change e)) unit ≡ Some layer
      → IsLayerAmong es (before + moved_units (change e)) layer)
      → IsLayerAmong (e ∷ es) before layer
  among-either e es before unit layer after (inl same) rest = among-first e es before layer after same
  among-either e es before unit layer after (inr later) rest =
      among-later e es before (moved_units (change e)) layer after (of e) (rest later)

  layer_from-among : (es : List Entry) (before unit : ℕ) (layer : Layer) → Pairwise IsBefore es
      → layer_from (map change es) before unit ≡ Some layer → IsLayerAmong es before layer
  layer_from-among [] before unit layer ordered found = absurd (none-some layer found)
  layer_from-among (e ∷ es) before unit layer ordered found =
      among-either e es before unit layer ordered.0 (layer_from-cases (change e) (map change es) before unit layer found)
      (layer_from-among es (before + moved_units (change e)) unit layer ordered.1)

-- the layer that holds a unit has the units of one of the movements that pass the test
layer_at-among : (test : Entry → Bool) (line : List Entry) (key : Key) (cs : List Change) (unit : ℕ) (layer : Layer)
    → IsInPostingOrder line → AreOfThose test line key cs → layer_at cs key unit ≡ Some layer
    → IsLayerAmong (filter test line) 0 layer
layer_at-among test line key cs unit layer ordered are found =
    layer_from-among leaving_change (λ e. refl) moved-units (filter test line) 0 unit layer
    (side-ordered test line ordered)
    (sym (ap (λ (ds : List Change). layer_from ds 0 unit) are) ∙ found)

-- so of those that entered
layer-in : (line : List Entry) (key : Key) (cs : List Change) (unit : ℕ) (layer : Layer) → IsInPostingOrder line
    → AreOfThose (enters_under key) line key cs → layer_at cs key unit ≡ Some layer → HoldsUnit unit layer
    → IsLayerIn line key unit layer
layer-in line key cs unit layer ordered are found holds =
    let among = layer_at-among (enters_under key) line key cs unit layer ordered are found in
    let g = among.mover in
    let of = Contains-filtered (enters_under key) line g among.held in
    let ahead = ahead-in line key g of.1 in
    record {
      giver = g;
      held = of.0;
      enters = of.1;
      place = among.place;
      qty = among.qty;
      begin = omega (arith, ahead, among.begin);
      begun = holds.begun;
      ends_later = holds.ends_later;
    }

-- and of those that left
layer-out : (line : List Entry) (key : Key) (cs : List Change) (unit : ℕ) (layer : Layer) → IsInPostingOrder line
    → AreOfThose (leaves_under key) line key cs → layer_at cs key unit ≡ Some layer → HoldsUnit unit layer
    → IsLayerOut line key unit layer
layer-out line key cs unit layer ordered are found holds =
    let among = layer_at-among (leaves_under key) line key cs unit layer ordered are found in
    let g = among.mover in
    let of = Contains-filtered (leaves_under key) line g among.held in
    let ahead = ahead-out line key g of.1 in
    record {
      taker = g;
      held = of.0;
      leaves = of.1;
      place = among.place;
      qty = among.qty;
      begin = omega (arith, ahead, among.begin);
      begun = holds.begun;
      ends_later = holds.ends_later;
    }

-- the same of an answer
pub layer-in_told : (line : List Entry) (key : Key) (cs : List Change) (unit : ℕ) (told : Option Layer) → IsInPostingOrder line
    → AreOfThose (enters_under key) line key cs → told ≡ layer_at cs key unit → IfSome told (HoldsUnit unit)
    → IfSome told (IsLayerIn line key unit)
layer-in_told line key cs unit None ordered are is holds = tt
layer-in_told line key cs unit (Some layer) ordered are is holds = layer-in line key cs unit layer ordered are (sym is) holds

pub layer-out_told : (line : List Entry) (key : Key) (cs : List Change) (unit : ℕ) (told : Option Layer) → IsInPostingOrder line
    → AreOfThose (leaves_under key) line key cs → told ≡ layer_at cs key unit → IfSome told (HoldsUnit unit)
    → IfSome told (IsLayerOut line key unit)
layer-out_told line key cs unit None ordered are is holds = tt
layer-out_told line key cs unit (Some layer) ordered are is holds = layer-out line key cs unit layer ordered are (sym is) holds
