-- How many units come before those of a movement: of two movements of one side never the same number.
use Rattle.std.proofs.Common.{◌≡◌, ℕ, ◌+◌, ◌<◌, ◌≤◌, Bool, true, not, List, [], ◌∷◌, filter, sum_by, Contains, inl, inr, sym, ap, ◌∙◌, subst, arith}
use Rattle.std.proofs.lemmas.List.Kept.{AllPairs-filter}
use Rattle.stock_nums.specs.Causes.{is_entering}
use Rattle.stock_nums.specs.declared.entry.Entry.{Entry}
use Rattle.stock_nums.specs.declared.entry.Key.{Key}
use Rattle.stock_nums.proofs.PlaceOrder.{is_before-transitive}
use Rattle.stock_model.specs.Enough.{entry_key, is_of_key, enters_under, leaves_under, entered, departed, entry_units}
use Rattle.stock_model.specs.InOrder.{IsBefore, IsInPostingOrder}
use Rattle.stock_model.proofs.Pairwise.{Pairwise, Precedes-Contains, Pairwise-from_AllPairs, Contains-cases}
use Rattle.stock_laws.proofs.Enough.{is_same_key-true}
use Rattle.layer_ranges.specs.declared.layer.Layer.{Layer}
use Rattle.cost_links.specs.Sources.{comes_before}
use Rattle.repost_laws.specs.Ranges.{units_in_before, units_out_before}
use Rattle.repost_laws.specs.Valuations.{earlier}
use Rattle.repost_laws.proofs.Filtered.{filter-swap, Contains-filter}
use Rattle.repost_laws.proofs.NextOnes.{place_of}
use Rattle.repost_laws.proofs.RangePieces.{units_ahead, ahead-first, ahead-later}
use Rattle.repost_laws.proofs.Turns.{both-true}
use Rattle.repost_index.specs.Layers.{IsLayerIn, IsLayerOut}

-- a side of a line, in order
pub side-ordered : (test : Entry → Bool) (line : List Entry) → IsInPostingOrder line → Pairwise IsBefore (filter test line)
side-ordered test line ordered =
    Pairwise-from_AllPairs IsBefore (filter test line) (AllPairs-filter IsBefore test line ordered)

-- among those that entered, ahead of one of them
pub ahead-in : (line : List Entry) (key : Key) (g : Entry) → enters_under key g ≡ true
    → units_ahead (filter (enters_under key) line) g ≡ units_in_before line g
ahead-in line key g enters =
    let own : entry_key g ≡ key = is_same_key-true (entry_key g) key (both-true (is_of_key key g) (is_entering g.place.side) enters).0 in
    ap (sum_by entry_units) (filter-swap (comes_before g.place) (enters_under key) line) ∙ ap (entered (earlier line g)) (sym own)

-- and among those that left
pub ahead-out : (line : List Entry) (key : Key) (g : Entry) → leaves_under key g ≡ true
    → units_ahead (filter (leaves_under key) line) g ≡ units_out_before line g
ahead-out line key g leaves =
    let own : entry_key g ≡ key = is_same_key-true (entry_key g) key
    (both-true (is_of_key key g) (not (is_entering g.place.side)) leaves).0 in
    ap (sum_by entry_units) (filter-swap (comes_before g.place) (leaves_under key) line) ∙ ap (departed (earlier line g)) (sym own)

-- ahead of a later one come all units of an earlier one
ahead-next : (es : List Entry) (e f : Entry) → Pairwise IsBefore es → Contains es e → IsBefore e f
    → units_ahead es e + entry_units e ≤ units_ahead es f
ahead-next [] e f ordered held before = absurd (omega (arith, held.1))
ahead-next (g ∷ es) e f ordered held before =
    elim (Contains-cases g es e held) [
      | inl same ↦
          let first : units_ahead (g ∷ es) e ≡ 0 = ap (units_ahead (g ∷ es)) (sym same) ∙ ahead-first g es ordered.0 in
          let more = ahead-later g es f (subst (λ (h : Entry). IsBefore h f) (sym same) before) in
          omega (arith, first, more, ap entry_units same)
      | inr later ↦
          let front : IsBefore g e = Precedes-Contains IsBefore g es e ordered.0 later in
          let rest = ahead-next es e f ordered.1 later before in
          omega (
            arith,
            rest,
            ahead-later g es e front,
            ahead-later g es f (is_before-transitive g.place e.place f.place front before),
          )
    ]

-- the unit of this number is among the movement's
pub record HasUnit (es : List Entry) (unit : ℕ) (e : Entry) : Type 0 where
  pub held : Contains es e
  pub begun : units_ahead es e ≤ unit
  pub ends_later : unit < units_ahead es e + entry_units e

-- so it is of one movement
pub unit-once : (es : List Entry) (unit : ℕ) (e f : Entry) → Pairwise IsBefore es → HasUnit es unit e → HasUnit es unit f → e ≡ f
unit-once es unit e f ordered own other =
    elim (place_of es e f ordered own.held other.held) [
      | inl same ↦ same
      | inr h ↦ elim h [
        | inl before ↦ absurd (omega (arith, ahead-next es e f ordered own.held before, own.ends_later, other.begun))
        | inr after ↦ absurd (omega (arith, ahead-next es f e ordered other.held after, other.ends_later, own.begun))
      ]
    ]

pub in-range : (line : List Entry) (key : Key) (unit : ℕ) (e : Entry) → Contains line e → enters_under key e ≡ true
    → units_in_before line e ≤ unit → unit < units_in_before line e + e.qty.0
    → HasUnit (filter (enters_under key) line) unit e
in-range line key unit e held enters begun later =
    let ahead = ahead-in line key e enters in
    record {
      held = Contains-filter (enters_under key) line e held enters;
      begun = omega (arith, ahead, begun);
      ends_later = omega (arith, ahead, later);
    }

pub out-range : (line : List Entry) (key : Key) (unit : ℕ) (e : Entry) → Contains line e → leaves_under key e ≡ true
    → units_out_before line e ≤ unit → unit < units_out_before line e + e.qty.0
    → HasUnit (filter (leaves_under key) line) unit e
out-range line key unit e held leaves begun later =
    let ahead = ahead-out line key e leaves in
    record {
      held = Contains-filter (leaves_under key) line e held leaves;
      begun = omega (arith, ahead, begun);
      ends_later = omega (arith, ahead, later);
    }

-- the unit of a layer is among its movement's
pub in-layer : (line : List Entry) (key : Key) (unit : ℕ) (layer : Layer) (is : IsLayerIn line key unit layer)
    → HasUnit (filter (enters_under key) line) unit is.giver
in-layer line key unit layer is =
    in-range line key unit is.giver is.held is.enters (omega (arith, is.begin, is.begun))
    (omega (arith, is.begin, is.qty, is.ends_later))

pub out-layer : (line : List Entry) (key : Key) (unit : ℕ) (layer : Layer) (is : IsLayerOut line key unit layer)
    → HasUnit (filter (leaves_under key) line) unit is.taker
out-layer line key unit layer is =
    out-range line key unit is.taker is.held is.leaves (omega (arith, is.begin, is.begun))
    (omega (arith, is.begin, is.qty, is.ends_later))
