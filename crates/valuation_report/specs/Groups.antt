-- The rows of a selection by their items and warehouses.
use Rattle.std.specs.Prelude.{List, map, filter}
use Rattle.stock_nums.specs.declared.entry.Key.{Key}
use Rattle.stock_nums.specs.declared.entry.Row.{Row}
use Rattle.stock_model.specs.declared.queries.Query.{Query}
use Rattle.stock_model.specs.declared.queries.Selected.{Selected}
use Rattle.stock_model.specs.Sheets.{is_asked_key, keys_of}
use Rattle.stock_model.specs.Sums.{is_of}
use Rattle.valuation_report.specs.declared.grouping.Group.{Group}

-- the rows of one item in one warehouse
abbrev pub group_of : List Row → Key → Group
group_of rows key = record { key = key; rows = filter (is_of key) rows }

-- the groups of the items and warehouses that are asked for, in the order of their numbers
abbrev pub groups_of : Query → Selected → List Group
groups_of query chosen = map (group_of chosen.rows) (filter (is_asked_key query chosen.heads) (keys_of chosen.rows))
