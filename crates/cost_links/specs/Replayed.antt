-- What later movements take over from the rows so far, kept for each line of a voucher.
use Rattle.std.specs.Prelude.{◌≡◌, List}
use Rattle.stock_nums.specs.declared.cause.Target.{Target}
use Rattle.stock_nums.specs.declared.entry.Row.{Row}
use Rattle.stock_model.specs.Values.{line_cost, returned_before}
use Rattle.stock_nums.specs.declared.line_sums.LineSums.{LineSums}
use Rattle.stock_nums.specs.LineSums.{number_of}

-- these are what left by each line cost, and how many units of it were returned
pub record AreSumsOf (rows : List Row) (costs returned : LineSums) : Type 0 where
  pub left : (line : Target) → number_of costs line ≡ line_cost rows line
  pub back : (line : Target) → number_of returned line ≡ returned_before rows line
