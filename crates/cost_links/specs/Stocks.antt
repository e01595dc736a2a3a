-- What is held of each item in each warehouse after the rows so far, kept by the item's formula.
use Rattle.std.specs.Prelude.{◌≡◌, ◌≤◌, List, map, filter}
use Rattle.stock_nums.specs.FirstIn.{Layer, layers_left}
use Rattle.stock_nums.specs.declared.cause.Method.TheVariants.{Fifo, Average}
use Rattle.stock_nums.specs.declared.entry.Key.{Key}
use Rattle.stock_nums.specs.declared.entry.Row.{Row}
use Rattle.stock_model.specs.Sums.{enters_at, quantity_in, quantity_out, stock_units, stock_value}
use Rattle.stock_laws.proofs.FirstOut.{IsFirstOutAt}
use Rattle.cost_formulas.specs.Lots.{Lot, lot_units}
use Rattle.cost_links.specs.declared.averages.Averages.{Averages}
use Rattle.cost_links.specs.declared.queues.Queues.{Queues}
use Rattle.cost_links.specs.Formulas.{HasFormulaAt}
use Rattle.cost_links.specs.Rows.{row_lot}
use Rattle.cost_links.specs.Tables.{Held, held_of, layers_of}

-- this is the stock
pub record IsAverageOf (rows : List Row) (key : Key) (held : Held) : Type 0 where
  pub quantity : held.units ≡ stock_units rows key
  pub worth : held.value ≡ stock_value rows key

-- these are the layers that are left of what entered, and what left cost what the first units cost
pub record AreLayersOf (rows : List Row) (key : Key) (layers : List (Layer Lot)) : Type 0 where
  pub left : layers ≡ layers_left lot_units (map row_lot (filter (enters_at key) rows)) (quantity_out rows key)
  pub out : IsFirstOutAt rows key

-- no more units left than entered, and what is held is kept by each item's formula
pub record AreStocksOf (rows : List Row) (averages : Averages) (queues : Queues) : Type 0 where
  pub covered : (key : Key) → quantity_out rows key ≤ quantity_in rows key
  pub at_average : (key : Key) → HasFormulaAt Average rows key → IsAverageOf rows key (held_of averages key)
  pub first_in : (key : Key) → HasFormulaAt Fifo rows key → AreLayersOf rows key (layers_of queues key)
