-- The parts of a ledger row's text.
use Rattle.std.specs.Prelude.{ℕ, List, ◌++◌, codes, decimal}
use Rattle.stock_nums.specs.MomentText.{moment_text}
use Rattle.stock_model.specs.declared.queries.Format.{Format}
use Rattle.stock_model.specs.declared.queries.Format.TheVariants.{Json, Csv}
use Rattle.valuation_report.specs.declared.ledger_texts.Movement.{Movement}
use Rattle.valuation_report.specs.SheetRows.{side_word}

-- the item's code, with what stands about it
abbrev pub item_part : Format → List ℕ → List ℕ
item_part Json item = codes "\",\"item\":\"" ++ (item ++ codes "\",\"line\":")
item_part Csv item = item ++ codes ","

-- the warehouse's code, with what stands about it
abbrev pub store_part : Format → List ℕ → List ℕ
store_part Json store = codes ",\"store\":\"" ++ (store ++ codes "\",\"value\":")
store_part Csv store = store ++ codes ","

-- the row of a movement, with these parts for its item and its warehouse
abbrev pub row_text : Format → List ℕ → List ℕ → Movement → List ℕ
row_text Json item store movement =
    codes "{\"at\":\"" ++ (moment_text movement.at ++ (item ++ (decimal movement.line ++ (codes ",\"qty\":" ++ (decimal movement.qty
    ++ (codes ",\"record\":" ++ (decimal movement.voucher ++ (codes ",\"side\":\"" ++ (side_word movement.side ++ (codes "\",\"stock\":" ++ (decimal movement.stock
    ++ (store ++ (decimal movement.value ++ (codes ",\"worth\":" ++ (decimal movement.worth ++ codes "},")))))))))))))))
row_text Csv item store movement =
    item ++ (store ++ (moment_text movement.at ++ (codes "," ++ (decimal movement.voucher ++ (codes "," ++ (decimal movement.line ++ (codes ","
    ++ (side_word movement.side ++ (codes "," ++ (decimal movement.qty ++ (codes "," ++ (decimal movement.value ++ (codes "," ++ (decimal movement.stock ++ (codes ","
    ++ (decimal movement.worth ++ codes "\\n"))))))))))))))))
