-- No difference so far is wide, and their corrections are made.
use Rattle.std.proofs.Common.{◌≡◌, ◌+◌, take, drop, map}
use Rattle.std.specs.List.{filter_map}
use Rattle.stock_model.specs.Faults.{first_line}
use Rattle.stock_count.specs.Corrections.{issue_said, receipt_said, shortage_of, surplus_of}
use Rattle.stock_count.specs.Differences.{difference, differences, first_wide, is_wide}
use Rattle.stock_count.proofs.planning.plan_count.Given as goal

abbrev pub invariant-loop-index : goal.invariant-loop-index
invariant-loop-index l = record {
  diffs : l.corrections.diffs ≡ map (difference l.journal l.sheet.at) (take l.index l.sheet.lines);
  shortages : map issue_said l.corrections.shortages ≡ filter_map (shortage_of l.journal l.sheet.at) (take l.index l.sheet.lines);
  surpluses : map receipt_said l.corrections.surpluses ≡ filter_map (surplus_of l.journal l.sheet.at) (take l.index l.sheet.lines);
  narrow : first_line is_wide (l.index + 1) (drop l.index (differences l.journal l.sheet)) ≡ first_wide (differences l.journal l.sheet);
}
