-- The lines of earlier vouchers that a journal has, and the items of lines.
use Rattle.std.specs.Prelude.{ℕ, zero, suc, List, Option, Some, None, slice_get, if◌then◌else◌}
use Rattle.std.specs.Option.{option_and_then}
use Rattle.stock_nums.specs.declared.cause.Method.{Method}
use Rattle.stock_nums.specs.declared.cause.Target.{Target}
use Rattle.stock_nums.specs.declared.moment.Moment.{Moment}
use Rattle.stock_nums.specs.declared.numbers.ItemNo.{ItemNo}
use Rattle.stock_model.specs.declared.records.Record.{Record}
use Rattle.stock_model.specs.declared.targets.NamedTarget.{NamedTarget}
use Rattle.stock_model.specs.Masters.{item_with, record_at}
use Rattle.stock_model.specs.VoucherLines.{Subject, Coded, OfTarget, VoucherLine, moment_of, lines_of, is_of_kind}

-- the line with this number, from 1
abbrev pub line_numbered : List VoucherLine → ℕ → Option VoucherLine
line_numbered lines zero = None
line_numbered lines (suc n) = slice_get lines n

-- the line of a record that is named, where the record is of the kind
abbrev pub line_of_kind : NamedTarget → Record → Option VoucherLine
line_of_kind named item = if is_of_kind named.kind item.what then line_numbered (lines_of item.what) named.target.line else None

-- the line that is named, where it is one of an accepted voucher of the kind
abbrev pub target_line : List Record → NamedTarget → Option VoucherLine
target_line journal named = option_and_then (line_of_kind named) (record_at journal named.target.voucher.0)

abbrev pub record_moment : Record → Option Moment
record_moment item = moment_of item.what

-- the moment of the voucher that a target is a line of
abbrev pub target_moment : List Record → Target → Option Moment
target_moment journal target = option_and_then record_moment (record_at journal target.voucher.0)

-- the item that has the code
abbrev pub coded_item : List Record → Subject → Option (ItemNo × Method)
coded_item journal (Coded code) = item_with journal code
coded_item journal (OfTarget named) = None

-- the line that has this item: the line itself, or the target that it names
abbrev pub line_having : List Record → VoucherLine → Subject → Option VoucherLine
line_having journal line (Coded code) = Some line
line_having journal line (OfTarget named) = target_line journal named

abbrev pub line_found : List Record → VoucherLine → Option VoucherLine
line_found journal line = line_having journal line line.item
