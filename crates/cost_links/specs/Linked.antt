-- What is charged to a line and returned of it, as contracts see it.
use Rattle.std.specs.Prelude.{ℕ, List}
use Rattle.stock_nums.specs.LineSums.{number_of}
use Rattle.stock_nums.specs.declared.cause.Cause.{Cause}
use Rattle.stock_nums.specs.declared.cause.Cause.TheVariants.{CustomerReturn, SupplierReturn}
use Rattle.stock_nums.specs.declared.cause.Target.{Target}
use Rattle.stock_nums.specs.declared.entry.Entry.{Entry}
use Rattle.stock_nums.specs.declared.place.Place.{Place}
use Rattle.cost_links.specs.Sources.{units_before}
use Rattle.cost_links.specs.Tables.{entries_to}
use Rattle.cost_links.specs.declared.links.Links.{Links}

-- what is charged to a line, and the movements that return units of it
abbrev pub charged_of : Links → Target → ℕ
charged_of links line = number_of links.charges line

abbrev pub returns_to : Links → Target → List Entry
returns_to links line = entries_to links.returns line

-- how many units of the target are returned by the movements that come before the place
abbrev pub back_by : Links → Place → Cause → ℕ
back_by links place (CustomerReturn target issued) = units_before place (returns_to links target)
back_by links place (SupplierReturn target amount received) = units_before place (returns_to links target)
back_by links place _ = 0

-- by those that come before the movement
abbrev pub back_of : Links → Entry → ℕ
back_of links e = back_by links e.place e.cause
