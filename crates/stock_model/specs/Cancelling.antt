-- Which voucher a cancel may take back: one that is in force, and of which no line is named by another one in force.
use Rattle.std.specs.Prelude.{ℕ, Bool, true, false, ◌&&◌, ◌==◌, List, Option}
use Rattle.std.specs.Option.{option_map_or}
use Rattle.std.specs.List.{enumerate_from, find, list_any}
use Rattle.stock_nums.specs.declared.cause.Target.{Target}
use Rattle.stock_nums.specs.declared.numbers.RecordNo.{RecordNo}
use Rattle.stock_model.specs.declared.records.Record.{Record}
use Rattle.stock_model.specs.declared.targets.NamedTarget.{NamedTarget}
use Rattle.stock_model.specs.declared.vouchers.What.{What}
use Rattle.stock_model.specs.declared.vouchers.What.TheVariants.{Item, Store, Freeze, Cancel}
use Rattle.stock_model.specs.Entries.{is_live}
use Rattle.stock_model.specs.Masters.{record_at}
use Rattle.stock_model.specs.Returns.{units_named}
use Rattle.stock_model.specs.VoucherLines.{lines_of, targets_of}

-- it moves goods, or charges for them
abbrev pub is_voucher : What → Bool
is_voucher (Item code method) = false
is_voucher (Store code account) = false
is_voucher (Freeze until) = false
is_voucher (Cancel target) = false
is_voucher _ = true

abbrev pub record_is_voucher : Record → Bool
record_is_voucher item = is_voucher item.what

-- the record with this number, from 1, is a voucher that is in force
abbrev pub is_voucher_in_force : List Record → ℕ → Bool
is_voucher_in_force journal n = option_map_or record_is_voucher (record_at journal n) false && is_live journal n

-- the target is a line of the record with this number
abbrev pub is_line_of : ℕ → NamedTarget → Bool
is_line_of n named = named.target.voucher.0 == n

-- a return or a landed voucher names a line of the record with this number
abbrev pub names_line_of : ℕ → What → Bool
names_line_of n what = list_any (is_line_of n) (targets_of what)

-- the record with this number is in force, and names a line of the n-th
abbrev pub is_link : List Record → ℕ → ℕ × Record → Bool
is_link journal n (k, item) = is_live journal k && names_line_of n item.what

-- the first such record, with its number
abbrev pub first_link : List Record → ℕ → Option (ℕ × Record)
first_link journal n = find (is_link journal n) (enumerate_from 1 journal)

-- the number of a record that has one
abbrev pub record_number : ℕ × Record → RecordNo
record_number (k, item) = record { 0 = k }

-- the units of the target that the record returns, if it is a return
abbrev pub record_units : Target → Record → ℕ
record_units target item = units_named (lines_of item.what) target

-- the units of the target that a return has which what is said takes back
abbrev pub units_gone : List Record → What → Target → ℕ
units_gone journal (Cancel cancelled) target = option_map_or (record_units target) (record_at journal cancelled.0) 0
units_gone journal _ target = 0
