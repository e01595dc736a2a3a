-- Numbers that are kept for lines of vouchers.
use Rattle.std.specs.Prelude.{ℕ, Bool, unwrap_or, is_some}
use Rattle.std.specs.BTreeMap.{get}
use Rattle.std.specs.declared.cmp.Ordering.{Ordering}
use Rattle.stock_nums.specs.contracts.cause.TargetOrd.TheImpl as target_order
use Rattle.stock_nums.specs.declared.cause.Target.{Target}
use Rattle.stock_nums.specs.declared.line_sums.LineSums.{LineSums}

-- the order of lines of vouchers: by record, and then by line
abbrev pub target_cmp : Target → Target → Ordering
target_cmp = (target_order.ghosts).cmp

-- the number of a line: 0 where none is kept
abbrev pub number_of : LineSums → Target → ℕ
number_of sums line = unwrap_or (get target_cmp sums.by_line line) 0

-- to change the number of the line takes no memory
abbrev pub has_room : LineSums → Target → Bool
has_room sums line = is_some (get target_cmp sums.by_line line)
