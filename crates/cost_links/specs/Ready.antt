-- What is known of a movement of a legal journal when all movements before it were valued.
use Rattle.std.specs.Prelude.{◌≤◌, List}
use Rattle.stock_nums.specs.declared.cause.Cause.{Cause}
use Rattle.stock_nums.specs.declared.cause.Cause.TheVariants.{CustomerReturn}
use Rattle.stock_nums.specs.declared.entry.Entry.{Entry}
use Rattle.stock_nums.specs.declared.entry.Row.{Row}
use Rattle.stock_nums.specs.declared.limits.TheConstants.{MAX_VALUE}
use Rattle.stock_model.specs.Bounds.{AreBounded}
use Rattle.stock_model.specs.Enough.{entry_key}
use Rattle.stock_model.specs.Replay.{value_next}
use Rattle.stock_model.specs.Values.{line_cost, HasUnits, HasUnitsLeft}
use Rattle.stock_model.specs.declared.records.Record.{Record}
use Rattle.cost_links.specs.Formulas.{HasFormulaAt}

-- where the movement is a customer's return, the issue's line cost no more than a movement can
abbrev pub HasCostBy : List Row → Cause → Type 0
HasCostBy before (CustomerReturn target issued) = line_cost before target ≤ MAX_VALUE
HasCostBy before _ = Unit {0}

-- the rows with the movement are bounded, there are the units that it takes, and its item's other movements have its formula
pub record IsReady (journal : List Record) (before : List Row) (e : Entry) : Type 0 where
  pub bounded : AreBounded (value_next journal before e)
  pub held : HasUnits before e
  pub left : HasUnitsLeft before e
  pub cost : HasCostBy before e.cause
  pub formula : HasFormulaAt e.method before (entry_key e)
