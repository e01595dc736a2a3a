-- The layers sheet: what is left of what entered, for each item in each warehouse.
use Rattle.std.specs.Prelude.{ℕ, ◌==◌, pos, List, [], ◌∷◌, map, filter, if◌then◌else◌, unwrap_or, unsigned_abs}
use Rattle.std.specs.Option.{option_map}
use Rattle.std.specs.List.{find, flat_map}
use Rattle.stock_nums.specs.declared.cause.Method.{Method}
use Rattle.stock_nums.specs.declared.cause.Method.TheVariants.{Fifo, Average}
use Rattle.stock_nums.specs.declared.entry.Key.{Key}
use Rattle.stock_nums.specs.declared.entry.Row.{Row}
use Rattle.stock_nums.specs.declared.head.Head.{Head}
use Rattle.stock_nums.specs.FirstIn.{Layer, layers_left, layer_units, layer_value}
use Rattle.stock_model.specs.declared.queries.Query.{Query}
use Rattle.stock_model.specs.declared.queries.Selected.{Selected}
use Rattle.stock_model.specs.declared.sheet_rows.LayerRow.{LayerRow}
use Rattle.stock_model.specs.Masters.{code_of}
use Rattle.stock_model.specs.Sheets.{is_asked_key, keys_of}
use Rattle.stock_model.specs.Sums.{is_of, enters_at, units_of, value_of, quantity_out, stock_units, stock_value}

abbrev pub row_method : Row → Method
row_method row = row.entry.method

-- the cost formula of the key's item, as the first of its movements says (each item has one: IAS 2.25)
abbrev pub formula_at : List Row → Key → Method
formula_at rows key = unwrap_or (option_map row_method (find (is_of key) rows)) Average

-- what is left, first in first out, of what entered
abbrev pub layers_at : List Row → Key → List (Layer Row)
layers_at rows key = layers_left units_of (filter (enters_at key) rows) (quantity_out rows key)

-- a layer as the sheet shows it
abbrev pub layer_row : List Head → Key → Layer Row → LayerRow
layer_row heads key layer =
    record {
      item = code_of heads key.item.0;
      store = code_of heads key.store.0;
      voucher = layer.entered.entry.place.voucher;
      line = layer.entered.entry.place.line;
      qty = record { 0 = layer_units units_of layer };
      value = record { 0 = pos (layer_value units_of value_of layer) };
    }

-- all units of an item that is costed by the moving average are one layer, which no one record made
abbrev pub average_row : List Head → List Row → Key → LayerRow
average_row heads rows key =
    record {
      item = code_of heads key.item.0;
      store = code_of heads key.store.0;
      voucher = record { 0 = 0 };
      line = 0;
      qty = record { 0 = stock_units rows key };
      value = record { 0 = pos (stock_value rows key) };
    }

-- the rows of an item in a warehouse, by the item's formula
abbrev pub layer_rows_by : Method → List Head → List Row → Key → List LayerRow
layer_rows_by Fifo heads rows key = map (layer_row heads key) (layers_at rows key)
layer_rows_by Average heads rows key = if stock_units rows key == 0 then [] else average_row heads rows key ∷ []

abbrev pub layer_rows : List Head → List Row → Key → List LayerRow
layer_rows heads rows key = layer_rows_by (formula_at rows key) heads rows key

-- the layers with units left of each item in each warehouse that are asked for
unfoldable pub layers : Query → Selected → List LayerRow
layers query selected =
    flat_map (layer_rows selected.heads selected.rows) (filter (is_asked_key query selected.heads) (keys_of selected.rows))

abbrev pub shown_units : LayerRow → ℕ
shown_units row = row.qty.0

abbrev pub shown_value : LayerRow → ℕ
shown_value row = unsigned_abs row.value.0
