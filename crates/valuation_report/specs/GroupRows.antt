-- What the sheets show of a group's rows, with the codes of its item and its warehouse.
use Rattle.std.specs.Prelude.{ℕ, ◌-◌, ◌==◌, List, [], ◌∷◌, ◌++◌, map, filter, pos, if◌then◌else◌}
use Rattle.stock_nums.specs.declared.cause.Method.{Method}
use Rattle.stock_nums.specs.declared.cause.Method.TheVariants.{Fifo, Average}
use Rattle.stock_nums.specs.declared.entry.Row.{Row}
use Rattle.stock_nums.specs.FirstIn.{Layer, layers_left}
use Rattle.stock_nums.specs.Part.{part}
use Rattle.stock_model.specs.declared.sheet_rows.BalanceRow.{BalanceRow}
use Rattle.stock_model.specs.declared.sheet_rows.LayerRow.{LayerRow}
use Rattle.stock_model.specs.declared.sheet_rows.LedgerRow.{LedgerRow}
use Rattle.stock_model.specs.Sums.{units_of, value_of}
use Rattle.valuation_report.specs.declared.holdings.Holding.{Holding}
use Rattle.valuation_report.specs.declared.layer_texts.Remainder.{Remainder}
use Rattle.valuation_report.specs.declared.ledger_texts.Movement.{Movement}
use Rattle.valuation_report.specs.Holdings.{row_enters, units_out, units_held, worth_held, holding_of}

-- what is held, as the balance sheet shows it
abbrev pub held_row : List ℕ → List ℕ → Holding → BalanceRow
held_row item store holding =
    record { item = item; store = store; qty = record { 0 = holding.entered - holding.left }; value = record { 0 = pos holding.value } }

-- what is left, as the layers sheet shows it
abbrev pub remainder_row : List ℕ → List ℕ → Remainder → LayerRow
remainder_row item store left =
    record {
      item = item;
      store = store;
      voucher = record { 0 = left.voucher };
      line = left.line;
      qty = record { 0 = left.qty };
      value = record { 0 = pos left.value };
    }

-- what is left of what a movement brought in, of which so many units were taken
abbrev pub left_of : Row → ℕ → Remainder
left_of row taken =
    record {
      voucher = row.entry.place.voucher.0;
      line = row.entry.place.line;
      qty = units_of row - taken;
      value = part (value_of row) taken (units_of row - taken) (units_of row);
    }

-- what is held, which no one record made
abbrev pub whole_of : List Row → Remainder
whole_of rows = record { voucher = 0; line = 0; qty = units_held rows; value = worth_held rows }

abbrev pub layer_left : List ℕ → List ℕ → Layer Row → LayerRow
layer_left item store layer = remainder_row item store (left_of layer.entered layer.taken)

-- the cost formula of the movements' item, as the first of them says
abbrev pub own_method : List Row → Method
own_method [] = Average
own_method (row ∷ rows) = row.entry.method

-- the layers that are left of the movements
abbrev pub layers_by : Method → List ℕ → List ℕ → List Row → List LayerRow
layers_by Fifo item store rows = map (layer_left item store) (layers_left units_of (filter row_enters rows) (units_out rows))
layers_by Average item store rows = if units_held rows == 0 then [] else remainder_row item store (whole_of rows) ∷ []

abbrev pub own_layers : List ℕ → List ℕ → List Row → List LayerRow
own_layers item store rows = layers_by (own_method rows) item store rows

-- a movement, and what is held after it
abbrev pub movement_of : Row → Holding → Movement
movement_of row holding =
    record {
      at = row.entry.place.moment;
      voucher = row.entry.place.voucher.0;
      line = row.entry.place.line;
      side = row.entry.place.side;
      qty = units_of row;
      value = value_of row;
      stock = holding.entered - holding.left;
      worth = holding.value;
    }

-- as the ledger sheet shows it
abbrev pub movement_row : List ℕ → List ℕ → Movement → LedgerRow
movement_row item store movement =
    record {
      item = item;
      store = store;
      at = movement.at;
      voucher = record { 0 = movement.voucher };
      line = movement.line;
      side = movement.side;
      qty = record { 0 = movement.qty };
      value = record { 0 = pos movement.value };
      stock = record { 0 = movement.stock };
      worth = record { 0 = pos movement.worth };
    }

-- each of the movements, which come after those
abbrev pub movements_after : List ℕ → List ℕ → List Row → List Row → List LedgerRow
movements_after item store before [] = []
movements_after item store before (row ∷ rows) =
    movement_row item store (movement_of row (holding_of (before ++ row ∷ []))) ∷ movements_after item store (before ++ row ∷ []) rows

abbrev pub own_movements : List ℕ → List ℕ → List Row → List LedgerRow
own_movements item store rows = movements_after item store [] rows
