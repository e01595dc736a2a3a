-- How many units each line of a voucher returns, and whether there is room to count them.
use Rattle.std.specs.Prelude.{◌≡◌, ℕ, Bool, true, List, Some, slice_get, if◌then◌else◌}
use Rattle.std.specs.Option.{option_map_or}
use Rattle.stock_nums.specs.LineSums.{has_room}
use Rattle.stock_nums.specs.declared.cause.Target.{Target}
use Rattle.stock_nums.specs.declared.line_sums.LineSums.{LineSums}
use Rattle.stock_model.specs.declared.records.Record.{Record}
use Rattle.stock_model.specs.Masters.{record_at}
use Rattle.stock_model.specs.Returns.{returns_line}
use Rattle.stock_model.specs.VoucherLines.{Subject, Coded, OfTarget, VoucherLine, lines_of}

-- there is room for the number of the line of an earlier voucher that the item is of, if it is of one
abbrev pub item_has_room : LineSums → Subject → Bool
item_has_room sums (Coded code) = true
item_has_room sums (OfTarget named) = has_room sums named.target

abbrev pub line_has_room : LineSums → VoucherLine → Bool
line_has_room sums line = item_has_room sums line.item

-- and so for the line at an index, if there is one
abbrev pub has_room_at : LineSums → List VoucherLine → ℕ → Bool
has_room_at sums lines index = option_map_or (line_has_room sums) (slice_get lines index) true

-- how many units of the target the line returns
abbrev pub units_of_line : Target → VoucherLine → ℕ
units_of_line target line = if returns_line target line then line.qty.0 else 0

abbrev pub units_named_at : List VoucherLine → ℕ → Target → ℕ
units_named_at lines index target = option_map_or (units_of_line target) (slice_get lines index) 0

-- no line loses its room
abbrev pub KeepsRoom : LineSums → LineSums → Type 0
KeepsRoom old new = (target : Target) → has_room old target ≡ true → has_room new target ≡ true

-- there is room for what the lines of each record return
abbrev pub HasRoom : List Record → LineSums → Type 0
HasRoom records sums = (n : ℕ) (item : Record) → record_at records n ≡ Some item → (index : ℕ) → has_room_at sums (lines_of item.what) index ≡ true
