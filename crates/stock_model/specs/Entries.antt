-- The movements of a record: one for one item and one warehouse each.
use Rattle.std.specs.Prelude.{ℕ, ◌+◌, ◌-◌, ◌==◌, Bool, false, not, List, [], ◌∷◌, ◌++◌, length, take, drop, filter, Option}
use Rattle.std.specs.Option.{option_map, option_to_list}
use Rattle.std.specs.List.{filter_map, enumerate_from, flat_map, zip, list_any}
use Rattle.stock_nums.specs.declared.moment.Moment.{Moment}
use Rattle.stock_nums.specs.declared.numbers.ItemNo.{ItemNo}
use Rattle.stock_nums.specs.declared.numbers.StoreNo.{StoreNo}
use Rattle.stock_nums.specs.declared.numbers.AccountNo.{AccountNo}
use Rattle.stock_nums.specs.declared.cause.Method.{Method}
use Rattle.stock_nums.specs.declared.entry.Entry.{Entry}
use Rattle.stock_model.specs.declared.vouchers.What.{What}
use Rattle.stock_model.specs.declared.vouchers.What.TheVariants.{Cancel}
use Rattle.stock_model.specs.declared.records.Record.{Record}
use Rattle.stock_model.specs.declared.seen.Move.{Move}
use Rattle.stock_model.specs.Masters.{store_with, record_at}
use Rattle.stock_model.specs.TargetLines.{coded_item, line_found}
use Rattle.stock_model.specs.VoucherLines.{VoucherLine, lines_of, moves_of, moment_of}

-- a move of the line with this number of the voucher with this number and moment, its item and warehouse found
abbrev pub moved : ℕ → Moment → ℕ → VoucherLine → ItemNo × Method → Move → StoreNo × AccountNo → Entry
moved n at number line item move store =
    record {
      place = record { moment = at; voucher = record { 0 = n }; line = number; side = move.side };
      item = item.0;
      store = store.0;
      qty = line.qty;
      method = item.1;
      cause = move.cause;
      quantity = line.quantity;
      amounts = move.amounts;
      sides = move.sides;
    }

-- the movement of a move into or out of the warehouse with this code, where there is one
abbrev pub move_made : List Record → ℕ → Moment → ℕ → VoucherLine → ItemNo × Method → Move × List ℕ → Option Entry
move_made journal n at number line item (move, code) = option_map (moved n at number line item move) (store_with journal code)

-- the movements of a line whose item is found: its moves, each with one of the warehouses that it names
abbrev pub moves_made : List Record → ℕ → Moment → What → ℕ → VoucherLine → VoucherLine → ItemNo × Method → List Entry
moves_made journal n at what number line found item =
    filter_map (move_made journal n at number line item) (zip (moves_of what line found) line.stores)

-- the movements of a line, where the line that its item is of is found
abbrev pub found_made : List Record → ℕ → Moment → What → ℕ → VoucherLine → VoucherLine → List Entry
found_made journal n at what number line found =
    flat_map (moves_made journal n at what number line found) (option_to_list (coded_item journal found.item))

abbrev pub line_made : List Record → ℕ → Moment → What → ℕ × VoucherLine → List Entry
line_made journal n at what (number, line) = flat_map (found_made journal n at what number line) (option_to_list (line_found journal line))

-- the movements of all lines of a voucher with this moment
abbrev pub lines_made : List Record → ℕ → What → Moment → List Entry
lines_made journal n what at = flat_map (line_made journal n at what) (enumerate_from 1 (lines_of what))

-- the movements of what the record with this number says: none where it has no moment
abbrev pub movements : List Record → ℕ → What → List Entry
movements journal n what = flat_map (lines_made journal n what) (option_to_list (moment_of what))

-- the movements of a record, read as the next one of the journal
abbrev pub entries : List Record → Record → List Entry
entries journal item = movements journal (length journal + 1) item.what

-- the movements of further records, in their order, each read in the journal before it
abbrev pub entries_after : List Record → List Record → List Entry
entries_after journal [] = []
entries_after journal (item ∷ rest) = entries journal item ++ entries_after (journal ++ item ∷ []) rest

-- what says this takes the record with this number back
unfoldable pub cancels : ℕ → What → Bool
cancels n (Cancel target) = target.0 == n
cancels n _ = false

abbrev pub takes_back : ℕ → Record → Bool
takes_back n item = cancels n item.what

-- the record with this number, from 1, is in force in the journal: no later one takes it back
abbrev pub is_live : List Record → ℕ → Bool
is_live journal n = not (list_any (takes_back n) (drop n journal))

abbrev pub is_live_entry : List Record → Entry → Bool
is_live_entry journal e = is_live journal e.place.voucher.0

-- the record doesn't take back the one whose movement this is
abbrev pub is_spared : Record → Entry → Bool
is_spared item e = not (takes_back e.place.voucher.0 item)

-- the movements of all records of a journal that are in force, in the order of the records
unfoldable pub all_entries : List Record → List Entry
all_entries journal = filter (is_live_entry journal) (entries_after [] journal)

-- the movements of the record with this number, from 1
abbrev pub entries_of : List Record → ℕ → List Entry
entries_of journal n = flat_map (entries (take (n - 1) journal)) (option_to_list (record_at journal n))

-- the movement is one of the record with this number
abbrev pub is_of_record : ℕ → Entry → Bool
is_of_record n e = n == e.place.voucher.0
