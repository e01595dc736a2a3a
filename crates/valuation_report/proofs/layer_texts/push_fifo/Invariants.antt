-- The layers that were added, and those of the rows to come.
use Rattle.std.proofs.Common.{◌≡◌, ◌++◌, map, filter, drop}
use Rattle.std.specs.List.{flat_map}
use Rattle.stock_nums.specs.FirstIn.{layers_left}
use Rattle.stock_nums.specs.declared.cause.Method.TheVariants.{Fifo}
use Rattle.stock_model.specs.Sums.{units_of}
use Rattle.valuation_report.specs.GroupRows.{layer_left, layers_by}
use Rattle.valuation_report.specs.Holdings.{row_enters}
use Rattle.valuation_report.specs.Pieces.{layer_piece}
use Rattle.valuation_report.proofs.layer_texts.push_fifo.Given as goal

abbrev pub invariant-loop-row : goal.invariant-loop-row
invariant-loop-row l =
    l.text.items ++ flat_map (layer_piece l.format) (map (layer_left l.item l.store) (layers_left units_of (filter row_enters (drop l.row-index l.rows)) l.taken))
    ≡ l.initial.text.items ++ flat_map (layer_piece l.format) (layers_by Fifo l.item l.store l.rows)
