-- What the first of some units are worth, by the place at which their movement stands.
use Rattle.std.proofs.Common.{◌≡◌, false, Contains, ℕ, ◌+◌, ◌-◌, ◌^◌, ◌<◌, ◌≤◌, ℤ, pos, List, length, sum_by, unsigned_abs, w64, to_z, of_z, to_z-of_z, ap, sym, ◌∙◌, arith}
use Rattle.stock_nums.specs.Causes.{is_entering}
use Rattle.stock_nums.specs.Part.{part}
use Rattle.stock_nums.specs.declared.cause.Method.TheVariants.{Fifo}
use Rattle.stock_nums.specs.declared.entry.Entry.{Entry}
use Rattle.stock_nums.specs.declared.entry.Key.{Key}
use Rattle.stock_nums.specs.declared.limits.TheConstants.{MAX_VALUE}
use Rattle.stock_nums.specs.declared.place.Place.{Place}
use Rattle.stock_model.specs.Enough.{entry_key, entry_units, enters_under, IsEnough}
use Rattle.stock_model.specs.InOrder.{IsInPostingOrder}
use Rattle.cost_links.specs.Sources.{comes_before}
use Rattle.layer_ranges.specs.declared.layer.Layer.{Layer}
use Rattle.repost_index.specs.Layers.{IsLayerIn, worth_between, layer_end}
use Rattle.repost_index.proofs.LayerParts.{worth-split}
use Rattle.repost_laws.specs.Pieces.{Piece, piece_value}
use Rattle.repost_laws.specs.Ranges.{units_out_before}
use Rattle.repost_laws.specs.Valuations.{Found, found_value, taken_over, sources, earlier}
use Rattle.repost_laws.proofs.RangePieces.{sources-all}
use Rattle.repost_laws.specs.WholeBuilds.{worth_at}
use Rattle.repost_spread.proofs.TakingUnits.{units-few}

-- units from one number on are worth the first movement's part, and what those from its end on are worth
pub worth-layer : (line : List Entry) (key : Key) (found : Found) (from until : ℕ) (layer : Layer)
    → IsLayerIn line key from layer → IsInPostingOrder line → from < until
    → worth_between line key (found_value found) from until
    ≡ part (unsigned_abs (worth_at found layer.place).value.0) (from - layer.begin.0) (layer_end layer until - from) layer.qty.0
    + worth_between line key (found_value found) (layer_end layer until) until
worth-layer line key found from until layer brought ordered less =
    worth-split line key (found_value found) from until layer brought ordered less
    ∙ ap (λ (p : Place). part (unsigned_abs (worth_at found p).value.0) (from - layer.begin.0)
    (layer_end layer until - from) layer.qty.0 + worth_between line key (found_value found) (layer_end layer until) until) brought.place

-- a movement has few units
pub layer-few : (line : List Entry) (key : Key) (unit : ℕ) (layer : Layer) → IsLayerIn line key unit layer
    → layer.qty.0 ≤ 1_000_000_000
layer-few line key unit layer brought = omega (arith, brought.qty, brought.giver.quantity.1)

-- and its numbers are small
pub layer-begin : (line : List Entry) (key : Key) (unit : ℕ) (layer : Layer) → length line ≤ 2 ^ 20
    → IsLayerIn line key unit layer → layer.begin.0 ≤ 1_048_576_000_000_000
layer-begin line key unit layer few brought =
    let g = brought.giver in
    omega (arith, brought.begin, units-few (enters_under (entry_key g)) (comes_before g.place) line few)

-- a number of minor units that fits is read again
pub read-again : (z : ℤ) (n : ℕ) → z ≡ pos n → n ≤ MAX_VALUE → unsigned_abs (to_z w64 (of_z w64 z)) ≡ n
read-again z n same small =
    ap (λ (y : ℤ). unsigned_abs (to_z w64 (of_z w64 y))) same
    ∙ ap unsigned_abs (to_z-of_z {w = w64} {z = pos n} (record { sfits = omega (arith, small) }))

-- what the first movement's units are worth, as it was read, and the rest are what was left to add up
pub worth-next : (line : List Entry) (key : Key) (found : Found) (from until end value read all : ℕ) (layer : Layer) (worth share : ℤ)
    → IsLayerIn line key from layer → IsInPostingOrder line → from < until → end ≡ layer_end layer until
    → worth ≡ (worth_at found layer.place).value.0
    → share ≡ pos (part (unsigned_abs worth) (from - layer.begin.0) (end - from) layer.qty.0)
    → read ≡ unsigned_abs (to_z w64 (of_z w64 share))
    → value + worth_between line key (found_value found) from until ≡ all → all ≤ MAX_VALUE
    → value + read + worth_between line key (found_value found) end until ≡ all
worth-next line key found from until end value read all layer worth share brought ordered less ends is told was so_far small =
    let own = part (unsigned_abs (worth_at found layer.place).value.0) (from - layer.begin.0) (layer_end layer until - from) layer.qty.0 in
    let split = worth-layer line key found from until layer brought ordered less in
    let same : share ≡ pos own = told
    ∙ ap (λ (w : ℤ). pos (part (unsigned_abs w) (from - layer.begin.0) (end - from) layer.qty.0)) is
    ∙ ap (λ (n : ℕ). pos (part (unsigned_abs (worth_at found layer.place).value.0) (from - layer.begin.0) (n - from) layer.qty.0)) ends in
    let again : read ≡ own = was ∙ read-again share own same (omega (arith, split, so_far, small)) in
    let rest : worth_between line key (found_value found) end until
    ≡ worth_between line key (found_value found) (layer_end layer until) until =
    ap (λ (n : ℕ). worth_between line key (found_value found) n until) ends in
    omega (arith, split, so_far, again, rest)

-- what leaves first in, first out takes over what the units with its numbers are worth
pub worth-taken : (line : List Entry) (e : Entry) (found : Found) (from : ℕ) → IsInPostingOrder line → IsEnough line
    → Contains line e → is_entering e.place.side ≡ false → e.method ≡ Fifo → from ≡ units_out_before line e
    → taken_over found (sources (earlier line e) e)
    ≡ worth_between line (entry_key e) (found_value found) from (from + e.qty.0)
worth-taken line e found from ordered enough held leaves method left =
    ap (λ (taken : List (Piece Entry)). sum_by (piece_value entry_units (found_value found)) taken)
    (sources-all line e ordered enough held leaves method)
    ∙ ap (λ (n : ℕ). worth_between line (entry_key e) (found_value found) n (n + e.qty.0)) (sym left)
