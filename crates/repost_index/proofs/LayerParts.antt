-- What units are worth first in, first out, by the parts of the movements that brought them.
use Rattle.std.proofs.Common.{◌≡◌, ℕ, ◌+◌, ◌-◌, ◌*◌, ◌/◌, ◌<◌, ◌≤◌, min, List, [], ◌∷◌, get_or, filter, sum_by, All, Contains, inl, inr, refl, sym, ap, ap₂, ◌∙◌, subst, arith}
use Rattle.std.proofs.lemmas.List.Sums.{sum_by-cons}
use Rattle.stock_nums.specs.FirstIn.{first_cost}
use Rattle.stock_nums.specs.Part.{part}
use Rattle.stock_nums.specs.declared.entry.Entry.{Entry}
use Rattle.stock_nums.specs.declared.entry.Key.{Key}
use Rattle.stock_nums.proofs.FirstIn.{first_cost-none}
use Rattle.stock_nums.proofs.PartLemmas.{share-mono, part-none}
use Rattle.stock_model.specs.Enough.{enters_under, entered, entry_units}
use Rattle.stock_model.specs.InOrder.{IsBefore, IsInPostingOrder}
use Rattle.stock_model.proofs.Pairwise.{Precedes, Pairwise, Precedes-Contains, Contains-cases}
use Rattle.layer_ranges.specs.declared.layer.Layer.{Layer}
use Rattle.repost_laws.specs.Pieces.{Piece, pieces, piece_value}
use Rattle.repost_laws.proofs.Filtered.{Contains-filter}
use Rattle.repost_laws.proofs.PieceSums.{sum_by-has_units, first_cost-cons, pieces-first_cost}
use Rattle.repost_laws.proofs.RangePieces.{units_ahead, ahead-first, ahead-later}
use Rattle.repost_index.specs.Layers.{IsLayerIn, worth_between, layer_end}
use Rattle.repost_index.proofs.UnitsAhead.{side-ordered, ahead-in}

-- each movement has units
all-some : (es : List Entry) → All (λ e. 0 < entry_units e) es
all-some es k d l = (get_or es k d).quantity.0

module _ (value : Entry → ℕ) where
  -- what the first units of a list cost
  abbrev cost_until : List Entry → ℕ → ℕ
  cost_until es x = first_cost entry_units value es x

  -- what the pieces between two numbers are worth
  abbrev worth_of_pieces : List Entry → ℕ → ℕ → ℕ
  worth_of_pieces es from until = sum_by (piece_value entry_units value) (pieces entry_units es from until)

  -- some of the first one's units cost their share
  cost-first : (g : Entry) (es : List Entry) (x : ℕ) → Precedes IsBefore g es → x ≤ entry_units g
      → cost_until (g ∷ es) x ≡ cost_until (g ∷ es) (units_ahead (g ∷ es) g)
      + value g * (x - units_ahead (g ∷ es) g) / entry_units g
  cost-first g es x after within =
      let ahead = ahead-first g es after in
      let parts = first_cost-cons entry_units value g es x g.quantity.0 (all-some es) in
      let all : min (entry_units g) x ≡ x = omega (arith, within) in
      let share : value g * min (entry_units g) x / entry_units g ≡ value g * x / entry_units g =
      ap (λ (n : ℕ). value g * n / entry_units g) all in
      let none_more : x - entry_units g ≡ 0 = omega (arith, within) in
      let rest : cost_until es (x - entry_units g) ≡ 0 = ap (cost_until es) none_more
      ∙ first_cost-none entry_units value es (all-some es) in
      let start : cost_until (g ∷ es) (units_ahead (g ∷ es) g) ≡ 0 = ap (cost_until (g ∷ es)) ahead
      ∙ first_cost-none entry_units value (g ∷ es) (all-some (g ∷ es)) in
      let from_start : x - units_ahead (g ∷ es) g ≡ x = omega (arith, ahead) in
      let own : value g * (x - units_ahead (g ∷ es) g) / entry_units g ≡ value g * x / entry_units g =
      ap (λ (n : ℕ). value g * n / entry_units g) from_start in
      omega (arith, parts, share, rest, start, own)

  -- where the first one's units are all among them, so are those of the rest
  cost-later : (y : Entry) (es : List Entry) (g : Entry) (x : ℕ) → IsBefore y g → units_ahead (y ∷ es) g ≤ x
      → cost_until es (x - entry_units y) ≡ cost_until es (units_ahead es g)
      + value g * ((x - entry_units y) - units_ahead es g) / entry_units g
      → cost_until (y ∷ es) x ≡ cost_until (y ∷ es) (units_ahead (y ∷ es) g)
      + value g * (x - units_ahead (y ∷ es) g) / entry_units g
  cost-later y es g x before begun rest =
      let ahead = ahead-later y es g before in
      let parts = first_cost-cons entry_units value y es x y.quantity.0 (all-some es) in
      let start = first_cost-cons entry_units value y es (units_ahead (y ∷ es) g) y.quantity.0 (all-some es) in
      let all : min (entry_units y) x ≡ entry_units y = omega (arith, ahead, begun) in
      let all_before : min (entry_units y) (units_ahead (y ∷ es) g) ≡ entry_units y = omega (arith, ahead) in
      let share : value y * min (entry_units y) x / entry_units y
      ≡ value y * min (entry_units y) (units_ahead (y ∷ es) g) / entry_units y =
      ap (λ (n : ℕ). value y * n / entry_units y) (all ∙ sym all_before) in
      let without : units_ahead (y ∷ es) g - entry_units y ≡ units_ahead es g = omega (arith, ahead) in
      let start_rest : cost_until es (units_ahead (y ∷ es) g - entry_units y) ≡ cost_until es (units_ahead es g) =
      ap (cost_until es) without in
      let shift : (x - entry_units y) - units_ahead es g ≡ x - units_ahead (y ∷ es) g = omega (arith, ahead) in
      let own : value g * ((x - entry_units y) - units_ahead es g) / entry_units g
      ≡ value g * (x - units_ahead (y ∷ es) g) / entry_units g = ap (λ (n : ℕ). value g * n / entry_units g) shift in
      omega (arith, parts, start, share, start_rest, own, rest)

  -- up to a number among a movement's units, the first units cost what those ahead cost and its share
  cost-within : (es : List Entry) (g : Entry) (x : ℕ) → Pairwise IsBefore es → Contains es g → units_ahead es g ≤ x
      → x ≤ units_ahead es g + entry_units g
      → cost_until es x ≡ cost_until es (units_ahead es g) + value g * (x - units_ahead es g) / entry_units g
  cost-within [] g x ordered held begun within = absurd (omega (arith, held.1))
  cost-within (y ∷ es) g x ordered held begun within =
      elim (Contains-cases y es g held) [
        | inl same ↦
            let upto : x ≤ units_ahead (y ∷ es) y + entry_units y =
            subst (λ (f : Entry). x ≤ units_ahead (y ∷ es) f + entry_units f) (sym same) within in
            subst (λ (f : Entry). cost_until (y ∷ es) x ≡ cost_until (y ∷ es) (units_ahead (y ∷ es) f)
            + value f * (x - units_ahead (y ∷ es) f) / entry_units f) same
            (cost-first y es x ordered.0 (omega (arith, upto, ahead-first y es ordered.0)))
        | inr later ↦
            let before : IsBefore y g = Precedes-Contains IsBefore y es g ordered.0 later in
            let ahead = ahead-later y es g before in
            cost-later y es g x before begun
            (cost-within es g (x - entry_units y) ordered.1 later (omega (arith, ahead, begun)) (omega (arith, ahead, within)))
      ]

  -- the pieces from a number among a movement's units are its part, and the pieces from a further one
  pieces-split : (es : List Entry) (g : Entry) (from mid until : ℕ) → Pairwise IsBefore es → Contains es g
      → units_ahead es g ≤ from → from ≤ mid → mid ≤ units_ahead es g + entry_units g → mid ≤ until
      → worth_of_pieces es from until
      ≡ part (value g) (from - units_ahead es g) (mid - from) (entry_units g) + worth_of_pieces es mid until
  pieces-split es g from mid until ordered held begun more within upto =
      let all = pieces-first_cost entry_units value es from until (all-some es) (omega (arith, more, upto)) in
      let rest = pieces-first_cost entry_units value es mid until (all-some es) upto in
      let start = cost-within es g from ordered held begun (omega (arith, more, within)) in
      let end = cost-within es g mid ordered held (omega (arith, begun, more)) within in
      let sum : (from - units_ahead es g) + (mid - from) ≡ mid - units_ahead es g = omega (arith, begun, more) in
      let own : part (value g) (from - units_ahead es g) (mid - from) (entry_units g)
      ≡ value g * (mid - units_ahead es g) / entry_units g - value g * (from - units_ahead es g) / entry_units g =
      ap (λ (n : ℕ). value g * n / entry_units g - value g * (from - units_ahead es g) / entry_units g) sum in
      let grows = share-mono (value g) (from - units_ahead es g) (mid - units_ahead es g) (entry_units g) g.quantity.0
      (omega (arith, more)) in
      omega (arith, all, rest, start, end, own, grows)

  abbrev piece_here : Entry → ℕ → ℕ → Piece Entry
  piece_here y from until =
      record {
        giver = y;
        before = min (entry_units y) from;
        among = min (entry_units y) until - min (entry_units y) from;
      }

  -- a piece of none is worth nothing
  piece-none : (y : Entry) (from until : ℕ) → min (entry_units y) until - min (entry_units y) from ≡ 0
      → piece_value entry_units value (piece_here y from until) ≡ 0
  piece-none y from until none =
      ap (λ (n : ℕ). part (value y) (min (entry_units y) from) n (entry_units y)) none
      ∙ part-none (value y) (min (entry_units y) from) (entry_units y)

  -- pieces that end no later than they begin are worth nothing
  pieces-empty : (es : List Entry) (from until : ℕ) → until ≤ from → worth_of_pieces es from until ≡ 0
  pieces-empty [] from until none = refl
  pieces-empty (y ∷ es) from until none =
      let own = piece-none y from until (omega (arith, none)) in
      let rest = pieces-empty es (from - entry_units y) (until - entry_units y) (omega (arith, none)) in
      let parts = sum_by-cons (piece_value entry_units value) (piece_here y from until) (pieces entry_units es (from - entry_units y) (until - entry_units y)) in
      omega (arith, own, rest, parts)

  -- and so are those that begin after all units
  pieces-past : (es : List Entry) (from until : ℕ) → sum_by entry_units es ≤ from → worth_of_pieces es from until ≡ 0
  pieces-past [] from until past = refl
  pieces-past (y ∷ es) from until past =
      let all = sum_by-cons entry_units y es in
      let own = piece-none y from until (omega (arith, past, all)) in
      let rest = pieces-past es (from - entry_units y) (until - entry_units y) (omega (arith, past, all)) in
      let parts = sum_by-cons (piece_value entry_units value) (piece_here y from until) (pieces entry_units es (from - entry_units y) (until - entry_units y)) in
      omega (arith, own, rest, parts)

-- what units are worth by the layer of the first of them, and from its end on
pub worth-split : (line : List Entry) (key : Key) (value : Entry → ℕ) (from until : ℕ) (layer : Layer)
    (is : IsLayerIn line key from layer) → IsInPostingOrder line → from < until
    → worth_between line key value from until
    ≡ part (value is.giver) (from - layer.begin.0) (layer_end layer until - from) layer.qty.0
    + worth_between line key value (layer_end layer until) until
worth-split line key value from until layer is ordered less =
    let g = is.giver in
    let ins = filter (enters_under key) line in
    let ahead : units_ahead ins g ≡ layer.begin.0 = ahead-in line key g is.enters ∙ is.begin in
    let mid = layer_end layer until in
    let split = pieces-split value ins g from mid until (side-ordered (enters_under key) line ordered)
    (Contains-filter (enters_under key) line g is.held is.enters) (omega (arith, ahead, is.begun))
    (omega (arith, less, is.ends_later)) (omega (arith, ahead, is.qty)) (omega arith) in
    let own : part (value g) (from - units_ahead ins g) (mid - from) (entry_units g)
    ≡ part (value g) (from - layer.begin.0) (mid - from) layer.qty.0 =
    ap₂ (λ (n m : ℕ). part (value g) (from - n) (mid - from) m) ahead is.qty in
    omega (
      arith,
      split,
      own,
      sum_by-has_units entry_units value (pieces entry_units ins from until),
      sum_by-has_units entry_units value (pieces entry_units ins mid until),
    )

pub worth-none : (line : List Entry) (key : Key) (value : Entry → ℕ) (from until : ℕ) → until ≤ from
    → worth_between line key value from until ≡ 0
worth-none line key value from until none =
    let ins = filter (enters_under key) line in
    sum_by-has_units entry_units value (pieces entry_units ins from until) ∙ pieces-empty value ins from until none

pub worth-past : (line : List Entry) (key : Key) (value : Entry → ℕ) (from until : ℕ) → entered line key ≤ from
    → worth_between line key value from until ≡ 0
worth-past line key value from until past =
    let ins = filter (enters_under key) line in
    sum_by-has_units entry_units value (pieces entry_units ins from until) ∙ pieces-past value ins from until past
