-- Each item has one cost formula (IAS 2.25).
use Rattle.std.specs.Prelude.{ℕ, ◌≡◌, List, All}
use Rattle.stock_nums.specs.declared.cause.Method.{Method}
use Rattle.stock_nums.specs.declared.entry.Entry.{Entry}

-- the movement has the formula of its item
abbrev pub HasFormula : (ℕ → Method) → Entry → Type 0
HasFormula formula e = e.method ≡ formula e.item.0

-- there are formulas, one for each item, that all these movements have
abbrev pub HaveOneFormula : List Entry → Type 0
HaveOneFormula es = (formula : ℕ → Method) × All (HasFormula formula) es
