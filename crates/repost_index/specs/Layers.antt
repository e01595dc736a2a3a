-- The units that one movement brought or took, by their numbers, told of a line of movements.
use Rattle.std.specs.Prelude.{ℕ, ◌≡◌, ◌+◌, ◌<◌, ◌≤◌, true, List, filter, sum_by, min, Contains}
use Rattle.stock_nums.specs.declared.entry.Entry.{Entry}
use Rattle.stock_nums.specs.declared.entry.Key.{Key}
use Rattle.stock_model.specs.Enough.{enters_under, leaves_under, entry_units}
use Rattle.layer_ranges.specs.declared.layer.Layer.{Layer}
use Rattle.repost_laws.specs.Pieces.{pieces, has_units, piece_value}
use Rattle.repost_laws.specs.Ranges.{units_in_before, units_out_before}

-- the layer has the units of a movement that entered, and the one of this number is among them
pub record IsLayerIn (line : List Entry) (key : Key) (unit : ℕ) (layer : Layer) : Type 0 where
  pub giver : Entry
  pub held : Contains line giver
  pub enters : enters_under key giver ≡ true
  pub place : giver.place ≡ layer.place
  pub qty : giver.qty.0 ≡ layer.qty.0
  pub begin : units_in_before line giver ≡ layer.begin.0
  pub begun : layer.begin.0 ≤ unit
  pub ends_later : unit < layer.begin.0 + layer.qty.0

-- the layer has the units of a movement that left, and the one of this number is among them
pub record IsLayerOut (line : List Entry) (key : Key) (unit : ℕ) (layer : Layer) : Type 0 where
  pub taker : Entry
  pub held : Contains line taker
  pub leaves : leaves_under key taker ≡ true
  pub place : taker.place ≡ layer.place
  pub qty : taker.qty.0 ≡ layer.qty.0
  pub begin : units_out_before line taker ≡ layer.begin.0
  pub begun : layer.begin.0 ≤ unit
  pub ends_later : unit < layer.begin.0 + layer.qty.0

-- what the units that entered are worth from one number until another, by what each movement is worth
abbrev pub worth_between : List Entry → Key → (Entry → ℕ) → ℕ → ℕ → ℕ
worth_between line key value from until =
    sum_by (piece_value entry_units value) (filter has_units (pieces entry_units (filter (enters_under key) line) from until))

-- until which number the units of a layer go, and no further than this one
abbrev pub layer_end : Layer → ℕ → ℕ
layer_end layer until = min (layer.begin.0 + layer.qty.0) until
